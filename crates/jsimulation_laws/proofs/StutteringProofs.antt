pub mod LeadCounts
pub mod StutterCounts
pub mod Silences
pub mod CountedAnswers
