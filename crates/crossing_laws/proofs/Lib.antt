pub mod PlanLaws
pub mod TableLaws
