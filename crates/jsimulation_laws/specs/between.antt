pub mod BetweenMachines
pub mod MachineAgreement
