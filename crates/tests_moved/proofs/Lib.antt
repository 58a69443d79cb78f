pub mod CodeReferences
