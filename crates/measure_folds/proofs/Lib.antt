pub mod DistinctFacts
pub mod ExtremeFacts
pub mod RowFacts
pub mod SumFacts
