pub mod LineTallies
pub mod EventCounts
