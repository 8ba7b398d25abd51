pub mod LeftFacts
pub mod FieldFacts
pub mod NumberFacts
pub mod AsciiFacts
pub mod PartFacts
pub mod PlaceFacts
