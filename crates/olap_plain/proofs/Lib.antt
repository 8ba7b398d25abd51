pub mod EntryFacts
pub mod StepFacts
pub mod Fields
pub mod SourceFacts
pub mod GroupFacts
