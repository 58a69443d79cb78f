pub mod FullLaws
pub mod MapLaws
