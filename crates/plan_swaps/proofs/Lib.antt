pub mod FireSteps
pub mod FrontViewSteps
pub mod ViewSteps
