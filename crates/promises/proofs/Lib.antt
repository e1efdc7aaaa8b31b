pub mod Trying
pub mod Refusing
pub mod Alike
pub mod Promised
pub mod Definite
