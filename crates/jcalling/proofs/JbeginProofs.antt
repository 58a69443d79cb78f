pub mod ThreadStarts
