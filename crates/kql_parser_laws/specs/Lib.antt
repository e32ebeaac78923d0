pub mod Counted
pub mod OfTree
pub mod Patterns
