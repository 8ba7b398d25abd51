pub mod Named
pub mod Axes
pub mod Lines
pub mod CacheTexts
