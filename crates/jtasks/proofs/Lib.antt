pub mod JstagesProofs
pub mod JtaskProofs
