pub mod FillSteps
pub mod ItemSteps
pub mod ProjectSteps
pub mod SumSteps
