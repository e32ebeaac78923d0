pub mod Cut
pub mod Json
pub mod Look
