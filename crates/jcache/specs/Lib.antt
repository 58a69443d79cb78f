pub mod CacheEntries
