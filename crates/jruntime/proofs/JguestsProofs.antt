pub mod ThreadLists
pub mod ThreadMembership
pub mod ThreadTurns
pub mod ThreadLiveness
