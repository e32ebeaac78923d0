pub mod CellForms
pub mod EmptyText
pub mod JsonFacts
pub mod ScalarForms
