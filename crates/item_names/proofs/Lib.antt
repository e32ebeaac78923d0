pub mod NameSteps
