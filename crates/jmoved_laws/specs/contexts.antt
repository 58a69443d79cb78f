pub mod StateContexts
pub mod ReducedContexts
pub mod SmallContexts
