pub mod ThreadObjects
pub mod ThreadEffects
pub mod ThreadLaws
pub mod ThreadConstructors
pub mod ThreadFrames
pub mod ThreadMethods
