pub mod ChoiceFacts
