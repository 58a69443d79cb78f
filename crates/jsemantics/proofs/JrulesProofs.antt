pub mod PrivilegeExamples
pub mod RuleEquivalence
