pub mod PlainFacts
