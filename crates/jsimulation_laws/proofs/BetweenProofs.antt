pub mod MachineAgreement
pub mod ContextExamples
