pub mod Checks
pub mod Slots
