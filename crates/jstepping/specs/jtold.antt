pub mod MessageConstructors
