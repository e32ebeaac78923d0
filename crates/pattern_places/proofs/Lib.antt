pub mod MarkSteps
pub mod PlaceSteps
pub mod TextSteps
