pub mod Index
pub mod Topics
