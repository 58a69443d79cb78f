pub mod CheckErrors
