pub mod Entries
pub mod StepTests
pub mod SourceTests
pub mod GroupTests
