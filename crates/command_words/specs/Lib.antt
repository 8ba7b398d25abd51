pub mod Options
pub mod Commands
pub mod OneOption
pub mod OddWords
pub mod Shapes
