pub mod JprogramProofs
pub mod JlayoutProofs
pub mod JusesProofs
