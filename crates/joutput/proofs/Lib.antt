pub mod JioProofs
pub mod JtallyProofs
pub mod JtraceProofs
