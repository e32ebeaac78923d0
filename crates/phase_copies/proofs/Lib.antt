pub mod CopySteps
