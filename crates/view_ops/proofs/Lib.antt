pub mod MovedRows
pub mod MovedGroups
pub mod StoredLaws
pub mod GrowingLaws
pub mod ViewSteps
