pub mod Find
pub mod Kinds
pub mod Names
