pub mod AttributeLaws
pub mod ClassLaws
pub mod CodeLaws
pub mod FirstPass
pub mod ShapeCoverage
pub mod FittingClasses
pub mod Texts
pub mod SkippedValues
