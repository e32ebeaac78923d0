pub mod ColumnSteps
