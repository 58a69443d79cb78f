pub mod EntryCaches
pub mod BranchNumbers
pub mod NameLookup
pub mod CacheInvariants
pub mod DescriptorCaches
pub mod MemberResolution
pub mod Spans
