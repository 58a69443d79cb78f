pub mod HeldPermissions
pub mod HeldPermissionLaws
pub mod LibraryOutcomes
pub mod CallOperands
