pub mod LiveEndings
pub mod LiveFiles
pub mod LiveAnswer
pub mod LiveOutcomes
pub mod LiveCalls
