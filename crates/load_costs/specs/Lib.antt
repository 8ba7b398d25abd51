pub mod Costs
pub mod Laws
