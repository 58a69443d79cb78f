pub mod ValueKinds
pub mod Operations
pub mod Shuffles
