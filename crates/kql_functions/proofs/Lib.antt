pub mod NameFacts
pub mod NamedTables
pub mod RowFacts
pub mod TableFacts
