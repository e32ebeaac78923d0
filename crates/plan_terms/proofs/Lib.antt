pub mod NameSteps
pub mod RenameLaws
pub mod RightNames
