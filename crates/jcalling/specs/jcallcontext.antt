pub mod ContextCallRows
pub mod ContextRequests
