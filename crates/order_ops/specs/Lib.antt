pub mod Order
pub mod Least
pub mod Marks
pub mod Leads
pub mod Tops
