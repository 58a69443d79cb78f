pub mod PassSimulation
pub mod PassRelation
