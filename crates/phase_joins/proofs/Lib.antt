pub mod CrossingLaws
pub mod JoinSteps
pub mod LedSteps
