pub mod InColumns
pub mod Parts
