pub mod FirstFacts
pub mod JsonFacts
pub mod LimitFacts
pub mod ListFacts
pub mod NameFacts
pub mod StepFacts
pub mod TakenFacts
pub mod WholeFacts
