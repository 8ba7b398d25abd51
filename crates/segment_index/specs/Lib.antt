pub mod Grouping
pub mod Index
pub mod Keys
pub mod Keeping
pub mod Masks
pub mod Numbered
pub mod Rising
pub mod Search
