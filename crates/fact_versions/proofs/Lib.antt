pub mod ColumnFacts
pub mod RowFacts
pub mod BatchFacts
pub mod Grown
