pub mod RiseFacts
pub mod WideFacts
pub mod MaskFacts
pub mod SameFacts
