pub mod Fronts
pub mod Literals
