pub mod Chains
pub mod Escapes
pub mod ExprSteps
pub mod Moments
pub mod PlanSteps
pub mod ReadBack
pub mod Separated
