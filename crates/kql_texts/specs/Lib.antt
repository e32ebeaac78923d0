pub mod Folding
pub mod Marks
pub mod Pieces
pub mod Places
pub mod Stands
pub mod Terms
pub mod Texts
