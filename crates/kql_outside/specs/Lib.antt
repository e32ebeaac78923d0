pub mod Calls
pub mod Causes
pub mod Memory
pub mod System
pub mod Told
