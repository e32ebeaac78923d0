pub mod CrossingLaws
pub mod PlaceSteps
pub mod TopSteps
