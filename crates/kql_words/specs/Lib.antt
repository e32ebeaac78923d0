pub mod Command
pub mod Options
pub mod Refusals
pub mod Sizes
pub mod TrialWords
