pub mod CrossingLaws
pub mod RunLaws
