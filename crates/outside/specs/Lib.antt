pub mod Event
pub mod Noted
pub mod Talks
pub mod Fetched
pub mod Asked
pub mod Told
pub mod Memory
