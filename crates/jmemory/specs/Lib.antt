pub mod jregion
pub mod jheap
