pub mod Reader
pub mod Requests
pub mod Asked
