pub mod TypeFits
pub mod ClassKinds
pub mod ClassRows
pub mod SuperclassWalks
