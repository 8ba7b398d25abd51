mod PutFacts
pub mod BuiltFacts
pub mod OfferFacts
