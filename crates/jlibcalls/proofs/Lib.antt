pub mod JlibraryProofs
pub mod JcontextsProofs
pub mod JchecksProofs
pub mod JthreadingProofs
pub mod JconstantsProofs
