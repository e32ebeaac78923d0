pub mod LawOfPatterns
pub mod Patterned
pub mod Placed
pub mod Ready
