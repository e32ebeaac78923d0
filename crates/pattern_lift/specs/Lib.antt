pub mod Calls
pub mod Derived
pub mod Lifted
pub mod Marks
pub mod Prefixes
pub mod Steps
