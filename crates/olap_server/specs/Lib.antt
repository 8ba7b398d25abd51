pub mod Faults
pub mod Bound
pub mod Parted
pub mod Said
pub mod Asked
pub mod Run
pub mod Complete
