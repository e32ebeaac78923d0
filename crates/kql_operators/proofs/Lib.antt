pub mod NamedFacts
