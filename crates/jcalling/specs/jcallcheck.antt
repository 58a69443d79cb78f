pub mod CheckRequests
pub mod CheckOutcomes
