pub mod BodyRows
pub mod Reading
pub mod Laws
pub mod Blocks
