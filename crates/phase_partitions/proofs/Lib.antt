pub mod OpSteps
