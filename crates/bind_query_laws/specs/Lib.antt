pub mod Laws
pub mod QueryPlaces
pub mod Sound
