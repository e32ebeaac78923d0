pub mod CountedLaws
mod LevelLaws
mod PartLaws
mod PatternFacts
pub mod PatternLaws
mod States
mod TokenFacts
mod TreeFacts
