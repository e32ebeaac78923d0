pub mod Cuts
pub mod LetBodies
pub mod LimitFacts
pub mod NameFacts
pub mod ResultLaws
pub mod TreeLaws
