pub mod HeaderFacts
pub mod ListingFacts
pub mod RecordFacts
