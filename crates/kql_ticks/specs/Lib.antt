pub mod Bins
pub mod Days
pub mod Forms
pub mod Moves
pub mod Numbers
pub mod Periods
pub mod Ranges
pub mod Texts
