pub mod MachineInvariants
pub mod MachineOutcomes
pub mod AnsweredCalls
pub mod MidStepMachines
pub mod RaiseOutcomes
