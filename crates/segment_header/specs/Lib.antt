pub mod Headers
pub mod Widening
pub mod Masks
