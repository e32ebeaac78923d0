pub mod AtHand
pub mod Inputs
pub mod Marks
pub mod Moved
pub mod Readings
