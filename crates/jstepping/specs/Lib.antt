pub mod jstep
pub mod jcore
pub mod jrefs
pub mod jopen
pub mod jtold
