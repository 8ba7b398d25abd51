pub mod EntryFacts
pub mod Flushes
pub mod PackFacts
pub mod SeatFacts
