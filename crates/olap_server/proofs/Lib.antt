pub mod PlaceFacts
pub mod FaultFacts
pub mod WordFacts
pub mod ReplyFacts
pub mod RunFacts
pub mod PartFacts
pub mod CompleteFacts
