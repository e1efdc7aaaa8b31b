pub mod Triangular
pub mod Products
