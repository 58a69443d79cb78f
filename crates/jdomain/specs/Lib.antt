pub mod Domains
pub mod GrantShares
pub mod CodeSources
pub mod DomainStacks
pub mod ProofNames
