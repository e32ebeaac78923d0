pub mod State
pub mod Laws
pub mod Replay
pub mod Lists
pub mod Storage
