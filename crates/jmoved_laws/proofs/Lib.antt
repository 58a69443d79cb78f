pub mod CodeProofs
pub mod TypesProofs
pub mod NamesProofs
pub mod ContextsProofs
