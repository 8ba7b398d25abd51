pub mod NameBytes
pub mod Reading
pub mod Lines
