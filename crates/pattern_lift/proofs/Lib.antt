pub mod CallSteps
pub mod LeftSteps
pub mod LentSteps
pub mod PlanSteps
pub mod PrefixSteps
pub mod ShapeSteps
