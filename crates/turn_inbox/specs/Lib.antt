pub mod Entries
pub mod Known
pub mod Rule
pub mod Shorter
