pub mod AskedLaws
pub mod CommandLaws
pub mod TrialFacts
pub mod UnlessFacts
mod OptionFacts
mod SizeFacts
