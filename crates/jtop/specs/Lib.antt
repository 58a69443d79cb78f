pub mod jdriver
