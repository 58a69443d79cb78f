pub mod ClassTails
