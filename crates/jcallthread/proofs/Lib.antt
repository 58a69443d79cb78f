pub mod ConstructorCalls
pub mod ThreadInvariants
pub mod ThreadCalls
