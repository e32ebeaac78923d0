pub mod Arrays
pub mod Bins
pub mod Filled
pub mod Grouped
pub mod Slots
pub mod Summary
