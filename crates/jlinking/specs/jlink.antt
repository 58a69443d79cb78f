pub mod NamedCalls
pub mod ProgramFiles
pub mod NamedFields
pub mod LinkedPrograms
pub mod CodeReferences
pub mod SelectedMethods
pub mod SoundDescriptors
pub mod ClassOrder
