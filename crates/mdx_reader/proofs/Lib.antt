pub mod Characters
pub mod Wants
pub mod Finishes
pub mod WholeQueries
pub mod TextPlaces
pub mod Whites
pub mod NameTexts
pub mod PathReading
