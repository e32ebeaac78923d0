pub mod Settled
pub mod Walk
