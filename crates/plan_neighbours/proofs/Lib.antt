pub mod ChosenSteps
pub mod InnerSteps
