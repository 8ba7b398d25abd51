pub mod FactRows
pub mod Columns
pub mod Facts
pub mod Kept
