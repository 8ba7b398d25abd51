pub mod FindFacts
pub mod ColumnFacts
pub mod FoldFacts
pub mod TableFacts
pub mod NumberFacts
pub mod PlaceFacts
pub mod ReadFacts
pub mod GroupFacts
pub mod CheckFacts
mod RightFacts
pub mod LoadFacts
pub mod CheapFacts
