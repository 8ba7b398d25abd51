pub mod Looks
pub mod Jobs
pub mod Kept
pub mod Plans
pub mod Laws
pub mod Rollups
pub mod Tables
pub mod Found
