pub mod BuiltFacts
pub mod CostFacts
