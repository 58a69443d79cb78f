pub mod ActionCalls
pub mod RunnableStarts
pub mod DomainEntries
pub mod KeptContexts
pub mod LimitPermissions
pub mod PrivilegeCalls
pub mod PrivilegeRequests
pub mod Snapshots
