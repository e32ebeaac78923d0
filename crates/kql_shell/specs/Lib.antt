pub mod Asked
pub mod Marks
pub mod Names
pub mod Parts
pub mod RunTexts
