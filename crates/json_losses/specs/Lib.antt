pub mod Laws
pub mod Lines
pub mod Losses
pub mod RecordsLeft
pub mod Views
