pub mod Calls
pub mod Folds
pub mod Kept
pub mod Keys
pub mod Laws
pub mod Own
pub mod Pieces
pub mod States
