pub mod EventTransfer
