pub mod FaultCauses
pub mod ListMaps
pub mod FirstFaults
pub mod MemoryFailures
