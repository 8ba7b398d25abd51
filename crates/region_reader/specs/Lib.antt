pub mod Words
pub mod Places
pub mod Closings
pub mod FlushTexts
