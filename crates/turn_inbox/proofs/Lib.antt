pub mod Prefixes
pub mod Sure
pub mod Moves
pub mod Rows
pub mod Marks
