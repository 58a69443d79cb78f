pub mod LineFeeds
pub mod LineCounts
