pub mod Gathered
pub mod Keys
pub mod Lent
