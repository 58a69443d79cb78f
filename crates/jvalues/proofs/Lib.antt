pub mod JopsProofs
