pub mod RegionBlocks
