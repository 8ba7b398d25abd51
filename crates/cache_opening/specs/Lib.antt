pub mod Asking
pub mod Opening
pub mod Laws
pub mod Steps
