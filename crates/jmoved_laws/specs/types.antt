pub mod FullFrameLaws
pub mod RenamedPlaces
pub mod RulePremises
pub mod MovedTypes
