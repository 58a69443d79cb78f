pub mod NumberedPools
