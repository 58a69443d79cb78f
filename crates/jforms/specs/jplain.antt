pub mod PlainGuards
