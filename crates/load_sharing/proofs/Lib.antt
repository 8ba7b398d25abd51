pub mod ListFacts
pub mod FlightFacts
pub mod CountFacts
pub mod TallyFacts
pub mod MaskFacts
pub mod AwaitFacts
