pub mod JtablesProofs
pub mod JinspectProofs
pub mod JpassProofs
pub mod JplainProofs
pub mod JengineProofs
