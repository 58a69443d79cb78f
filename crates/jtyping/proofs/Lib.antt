pub mod JruleProofs
pub mod JwelltypedProofs
