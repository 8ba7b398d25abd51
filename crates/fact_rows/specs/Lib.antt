pub mod BatchFiles
pub mod Bound
