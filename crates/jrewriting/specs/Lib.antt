pub mod jmove_laws
pub mod jmoveclass_laws
pub mod jrewrite
