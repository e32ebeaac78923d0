pub mod Computes
pub mod Entries
pub mod Files
pub mod Tables
