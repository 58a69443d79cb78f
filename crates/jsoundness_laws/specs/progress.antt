pub mod SoundPrograms
pub mod TypedStates
