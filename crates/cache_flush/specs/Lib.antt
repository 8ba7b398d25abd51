pub mod Shuts
pub mod Records
pub mod Anchors
pub mod Formed
pub mod Gone
pub mod Loads
