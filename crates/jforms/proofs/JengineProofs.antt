pub mod StepPremises
pub mod QuickRuns
pub mod InitialMachines
pub mod RunPositions
