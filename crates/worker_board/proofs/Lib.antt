pub mod Sums
pub mod RuleSteps
pub mod RuleKept
pub mod Sits
pub mod Deals
pub mod Filled
pub mod AllDone
pub mod Lawful
