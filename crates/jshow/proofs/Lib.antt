pub mod Domains
pub mod ItemLines
pub mod Lines
