pub mod jstages
pub mod jtask
