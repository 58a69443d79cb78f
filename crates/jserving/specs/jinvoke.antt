pub mod Answers
pub mod CallQueries
pub mod InterfaceCalls
pub mod InvokeOutcomes
pub mod InvokeLaws
pub mod CallSiteCache
pub mod HandlerLookUps
