pub mod JregionProofs
pub mod JheapProofs
