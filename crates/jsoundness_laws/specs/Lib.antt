pub mod progress
pub mod program
pub mod typed
pub mod library
