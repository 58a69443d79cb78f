pub mod jguests
pub mod jrun
pub mod jstate
