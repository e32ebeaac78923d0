pub mod AnswerFacts
pub mod CheckFacts
pub mod CrossingLaws
pub mod SlotFacts
