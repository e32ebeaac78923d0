pub mod AloneLaws
pub mod FormLaws
pub mod HeldLaws
pub mod PhaseLaws
