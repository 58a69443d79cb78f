pub mod WaiterCounts
pub mod ThreadUpdates
pub mod RunnableNumbers
pub mod RunnableNeighbours
pub mod ThreadAdditions
pub mod Waits
