pub mod Filled
pub mod Search
