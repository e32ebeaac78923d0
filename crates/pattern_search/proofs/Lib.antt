pub mod RegexFacts
pub mod Groups
pub mod LiteralFacts
pub mod CrossingLaws
pub mod GrammarFacts
