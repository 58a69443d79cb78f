pub mod JmembersProofs
pub mod JreferringProofs
pub mod JlinkProofs
