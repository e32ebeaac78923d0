pub mod Arguments
pub mod LawsOfGathered
