pub mod Scripts
pub mod Sights
pub mod Runs
