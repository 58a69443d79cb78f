mod Lines
mod Utf8s
pub mod Words
mod PathIndependence
pub mod PathReplacement
mod StoredLineFaults
mod Sources
mod Jobs
