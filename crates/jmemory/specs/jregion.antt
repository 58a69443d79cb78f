pub mod Blocks
pub mod RegionLaws
pub mod Regions
