pub mod StackVerdicts
pub mod Bools
pub mod Growth
pub mod MinimalContexts
pub mod LimitedPrivileges
pub mod Verdicts
