pub mod DeclaredFrames
pub mod MethodPremises
pub mod WellTypedness
pub mod VerifierTests
pub mod ProofNames
