pub mod Delivered
pub mod Ends
pub mod Keeping
