pub mod NothingFacts
