pub mod jacts
pub mod jtexts
pub mod jobjs
pub mod jcalls
