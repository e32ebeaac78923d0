pub mod Headed
pub mod Kinds
pub mod Listing
pub mod Pairs
