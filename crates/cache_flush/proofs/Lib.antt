pub mod ListFacts
pub mod Differing
pub mod NumberFacts
pub mod Concerning
pub mod Recording
pub mod RisingFacts
pub mod GoneFacts
pub mod AnchorFacts
