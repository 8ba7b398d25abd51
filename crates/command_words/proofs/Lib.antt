pub mod EqualsFacts
pub mod WordFacts
pub mod WordByWord
pub mod WalkFacts
pub mod ClapFacts
pub mod FileFacts
pub mod NumberFacts
