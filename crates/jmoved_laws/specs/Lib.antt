pub mod code
pub mod types
pub mod names
pub mod contexts
