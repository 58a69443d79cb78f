pub mod JdriverProofs
