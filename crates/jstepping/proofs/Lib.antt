pub mod JstepProofs
pub mod JcoreProofs
pub mod JrefsProofs
pub mod JopenProofs
pub mod JtoldProofs
