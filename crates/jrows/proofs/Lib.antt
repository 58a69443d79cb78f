pub mod JactsProofs
pub mod JtextsProofs
pub mod JobjsProofs
pub mod JcallsProofs
