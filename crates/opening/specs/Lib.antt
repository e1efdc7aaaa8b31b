pub mod Opening
pub mod Held
pub mod Opened
