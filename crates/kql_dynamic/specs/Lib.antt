pub mod Arrays
pub mod Bags
pub mod Json
pub mod Laws
pub mod Parts
pub mod Printed
pub mod Sets
