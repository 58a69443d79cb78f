pub mod JcallplainProofs
pub mod JbeginProofs
pub mod JcallcheckProofs
pub mod JcallcontextProofs
pub mod JexecuteProofs
