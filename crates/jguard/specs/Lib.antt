pub mod GuardQueries
pub mod NumberMeanings
pub mod GuardLaws
pub mod StepQueries
