pub mod Faults
pub mod Plans
pub mod Parts
pub mod Boxes
pub mod Defaults
pub mod Standing
