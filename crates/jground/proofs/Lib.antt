pub mod JbaseProofs
pub mod JformatProofs
pub mod JtextProofs
