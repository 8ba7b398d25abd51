pub mod PlaceFacts
pub mod TableFacts
