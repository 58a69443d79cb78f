pub mod Contexts
pub mod ContextGrowth
pub mod ContextItems
pub mod ContextLaws
pub mod PrivilegeLimits
pub mod ProofNames
