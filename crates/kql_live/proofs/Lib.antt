mod LiveFileFacts
mod LiveStepFacts
mod LiveRunFacts
mod LiveCallFacts
mod LiveOutcomeFacts
mod LiveOneFacts
