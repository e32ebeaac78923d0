pub mod Calls
pub mod Columns
pub mod Grouped
pub mod Groups
pub mod Passes
pub mod Picks
