pub mod BetweenProofs
pub mod StutteringProofs
pub mod LocalProofs
pub mod RelationProofs
