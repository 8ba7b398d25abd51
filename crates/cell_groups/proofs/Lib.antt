pub mod Alike
pub mod KeyFacts
pub mod GroupFacts
pub mod ValueFacts
pub mod HeaderFacts
