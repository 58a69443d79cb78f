pub mod CommandAnswers
pub mod CheckCounts
pub mod Listings
pub mod Refusals
pub mod Statuses
