pub mod Exprs
pub mod Literals
pub mod Operators
pub mod Plans
pub mod ReadBack
pub mod Words
