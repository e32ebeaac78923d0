pub mod Led
pub mod Pairs
pub mod Shown
pub mod Sides
