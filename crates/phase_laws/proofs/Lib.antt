pub mod ByRowLaws
pub mod PieceLaws
pub mod RunLaws
