pub mod Log
pub mod Queries
