pub mod GuardAnswers
pub mod FetchedAsks
pub mod RelationStability
pub mod OptionalRules
pub mod SingleAsks
pub mod StepSimulation
