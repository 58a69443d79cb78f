pub mod jfits
pub mod jinvoke
pub mod jserve
pub mod jcells
