pub mod Loads
pub mod Jobs
pub mod Laws
