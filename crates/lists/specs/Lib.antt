pub mod Meaning
pub mod Bounded
pub mod Told
