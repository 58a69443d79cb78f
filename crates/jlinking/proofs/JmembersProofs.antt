pub mod FirstFaults
pub mod FinalOverrides
pub mod FixedMethods
pub mod PoolTextMarks
pub mod MemberSets
pub mod TextNumbers
pub mod MemberTests
