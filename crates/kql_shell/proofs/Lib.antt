pub mod ReadsLaws
pub mod RunFacts
pub mod SplitFacts
