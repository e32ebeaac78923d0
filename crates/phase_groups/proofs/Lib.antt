mod CrossingLaws
mod JoinSteps
mod ReadSteps
mod RunSteps
mod ShareSteps
