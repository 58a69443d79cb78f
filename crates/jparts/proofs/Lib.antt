pub mod JpoolProofs
pub mod JmapsProofs
pub mod JcodeProofs
