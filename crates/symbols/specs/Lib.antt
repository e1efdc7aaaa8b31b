pub mod Ring
pub mod Polynomials
pub mod Packed
pub mod Families
pub mod Tests
pub mod Rules
