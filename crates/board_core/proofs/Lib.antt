pub mod Lawful
pub mod ListLemmas
pub mod Stored
pub mod AnswerLemmas
pub mod Replayed
pub mod Named
pub mod Sizes
