pub mod Rounds
pub mod Works
