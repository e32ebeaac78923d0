pub mod Calls
pub mod Carries
pub mod Columns
pub mod Fitting
pub mod Kept
pub mod Running
