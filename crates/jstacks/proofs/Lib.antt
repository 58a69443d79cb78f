pub mod Ends
pub mod ListFronts
pub mod ListUpdates
pub mod PileLaws
