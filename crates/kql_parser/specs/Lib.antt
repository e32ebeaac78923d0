pub mod Alone
pub mod Limits
pub mod Operators
pub mod Parsing
pub mod Piped
pub mod Query
