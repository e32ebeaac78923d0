pub mod LiteralFacts
pub mod RangeSteps
