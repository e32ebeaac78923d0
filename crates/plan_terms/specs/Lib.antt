pub mod NamesRead
pub mod Renames
