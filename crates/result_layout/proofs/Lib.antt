pub mod PathFacts
pub mod NamedFacts
pub mod PlaceFacts
pub mod RowFacts
pub mod WholeFacts
pub mod KeptFacts
