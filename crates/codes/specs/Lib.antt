pub mod Code
pub mod Search
pub mod Sets
pub mod Steps
pub mod Offenders
pub mod Serviceable
