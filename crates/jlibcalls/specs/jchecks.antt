pub mod PermissionQueries
pub mod PermissionVerdicts
