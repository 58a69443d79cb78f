pub mod JmoveLawsProofs
pub mod JmoveclassLawsProofs
pub mod JrewriteProofs
