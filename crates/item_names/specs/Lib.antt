pub mod ItemNames
pub mod LawsOfItemNames
