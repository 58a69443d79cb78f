pub mod jlibrary
pub mod jcontexts
pub mod jchecks
pub mod jthreading
pub mod jconstants
