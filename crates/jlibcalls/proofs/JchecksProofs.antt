pub mod CheckOutcomes
pub mod CheckRequests
pub mod Messages
