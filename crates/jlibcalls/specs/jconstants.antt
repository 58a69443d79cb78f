pub mod ConstantLoads
pub mod StringConstants
