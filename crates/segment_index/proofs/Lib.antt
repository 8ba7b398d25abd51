-- That `proofs` ensures what it says.
pub mod SwapFacts
pub mod GroupFacts
pub mod KeyFacts
pub mod MaskFacts
pub mod TallyFacts
pub mod RisingFacts
pub mod LoadFacts
pub mod SearchFacts
pub mod ListedFacts
pub mod PlaceFacts
pub mod CandidateFacts
pub mod LeftFacts
