pub mod Trees
pub mod Nodes
pub mod Spans
pub mod Numbered
