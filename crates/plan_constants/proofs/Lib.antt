pub mod CallSteps
pub mod FrontSteps
