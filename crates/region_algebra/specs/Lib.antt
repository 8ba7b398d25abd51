pub mod Faults
pub mod Regions
pub mod Laws
