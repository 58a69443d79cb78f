pub mod MadeStrings
pub mod HeapBuilders
pub mod HeapTexts
pub mod Messages
pub mod PrintEvents
pub mod TextCallOutcomes
pub mod PrintedValues
