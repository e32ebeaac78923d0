pub mod BindSteps
pub mod CodeLaws
pub mod JoinSteps
pub mod LetSteps
pub mod OperatorCodes
pub mod PipeSteps
pub mod ReadSteps
mod RecordLaws
mod ScanLaws
pub mod UnionSteps
