pub mod Slashes
pub mod GrantedShares
pub mod SharedLists
