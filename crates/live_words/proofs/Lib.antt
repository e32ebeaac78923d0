mod OptionFacts
mod PathFacts
