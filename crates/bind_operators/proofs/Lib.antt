pub mod AnswerSteps
pub mod ExtendSteps
pub mod NameLaws
pub mod PlaceFacts
pub mod PrintSteps
pub mod RenameLaws
