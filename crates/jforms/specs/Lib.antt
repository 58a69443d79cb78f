pub mod jtables
pub mod jinspect
pub mod jpass
pub mod jplain
pub mod jengine
