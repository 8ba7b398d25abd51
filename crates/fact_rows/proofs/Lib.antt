pub mod PlaceFacts
pub mod RowFacts
pub mod UseFacts
