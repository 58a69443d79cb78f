pub mod ThreadQueues
pub mod Schedule
pub mod ThreadTables
pub mod ProofNames
