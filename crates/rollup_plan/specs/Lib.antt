pub mod Plans
pub mod Picks
pub mod Rolls
pub mod Laws
pub mod Serving
