pub mod JguestsProofs
pub mod JrunProofs
pub mod JstateProofs
