pub mod RunPositions
pub mod Engines
pub mod RunTables
