pub mod PoolTexts
pub mod UnnumberedRows
pub mod ConstantLoads
pub mod Tables
