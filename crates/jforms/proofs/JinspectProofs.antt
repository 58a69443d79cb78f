pub mod InspectingAnswers
pub mod InspectingSide
pub mod MarkMeanings
