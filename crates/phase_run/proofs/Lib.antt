pub mod AloneSteps
pub mod AloneTold
pub mod FilterSteps
pub mod PartSteps
pub mod PhaseSteps
pub mod RowSteps
pub mod RunSteps
pub mod ToldSteps
