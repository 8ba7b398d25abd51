pub mod Begins
pub mod Moves
pub mod Wants
pub mod Finishes
pub mod WholeFlushes
