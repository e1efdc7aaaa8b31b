pub mod Contents
pub mod Layout
pub mod Limits
pub mod Held
pub mod Header
pub mod Trips
