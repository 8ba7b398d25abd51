pub mod TableFiles
pub mod Bound
