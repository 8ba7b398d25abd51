pub mod Roots
pub mod Parts
pub mod Tables
pub mod Columns
pub mod Members
pub mod Named
