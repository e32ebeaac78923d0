pub mod Extended
pub mod Steps
pub mod States
pub mod Runs
pub mod Scans
