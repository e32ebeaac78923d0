pub mod Catalogue
pub mod Columns
pub mod Entries
pub mod Json
