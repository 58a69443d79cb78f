pub mod jcallplain
pub mod jbegin
pub mod jcallcheck
pub mod jcallcontext
pub mod jexecute
