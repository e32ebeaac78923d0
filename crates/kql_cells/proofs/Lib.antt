pub mod FormLaws
pub mod HashLaws
pub mod LevelLaws
pub mod NumberLaws
pub mod OrderLaws
pub mod RowLaws
