pub mod Answers
pub mod Makers
pub mod Ranges
pub mod Refused
