pub mod HaltingLoops
pub mod ListPositions
pub mod Paths
pub mod LinkableParts
pub mod Wholes
