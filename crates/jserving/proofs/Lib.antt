pub mod JfitsProofs
pub mod JinvokeProofs
pub mod JserveProofs
pub mod JcellsProofs
