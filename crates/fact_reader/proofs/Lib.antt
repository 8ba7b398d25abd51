pub mod LawFacts
pub mod RowFacts
pub mod FactPlaces
pub mod BatchFacts
pub mod ValuedFacts
pub mod BlockFacts
