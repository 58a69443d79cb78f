pub mod RewrittenRuns
pub mod Answers
pub mod Headline
pub mod GeneratedRuns
pub mod JobProgress
pub mod PassedRuns
