pub mod ItemColumns
pub mod MovedColumns
