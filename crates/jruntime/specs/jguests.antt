pub mod GuestThreads
pub mod TurnOutcomes
