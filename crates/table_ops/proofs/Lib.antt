pub mod Transposed
pub mod InColumnFacts
pub mod UnionFacts
pub mod ValueFacts
pub mod CountFacts
pub mod PartFacts
pub mod DownFacts
pub mod ExpandFacts
