pub mod Flights
pub mod Masks
pub mod Counted
