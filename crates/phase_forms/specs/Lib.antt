pub mod Held
pub mod Phases
