pub mod InspectingRules
pub mod PlainRules
pub mod RuleCorrespondence
