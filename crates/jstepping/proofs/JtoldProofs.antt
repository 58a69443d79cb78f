pub mod ThrowableClasses
pub mod InitReceivers
pub mod LibraryDispatch
pub mod MessageReceivers
