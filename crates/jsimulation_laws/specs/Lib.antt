pub mod between
pub mod stuttering
pub mod local
pub mod relation
