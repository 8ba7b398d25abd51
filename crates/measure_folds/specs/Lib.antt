pub mod Kept
pub mod StateOf
pub mod Tallied
