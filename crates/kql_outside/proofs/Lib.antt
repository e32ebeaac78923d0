pub mod Appends
pub mod CallFacts
pub mod Files
pub mod Fills
