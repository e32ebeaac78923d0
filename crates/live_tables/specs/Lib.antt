pub mod Columns
pub mod Growing
