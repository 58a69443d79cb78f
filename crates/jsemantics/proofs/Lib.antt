pub mod JmachineProofs
pub mod JrulesProofs
