pub mod InitialStates
