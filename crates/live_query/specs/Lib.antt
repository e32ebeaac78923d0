pub mod Keeping
pub mod KeepingLaws
pub mod LiveMeaning
pub mod ViewForm
pub mod Watching
