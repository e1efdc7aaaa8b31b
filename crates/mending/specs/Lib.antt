pub mod Input
pub mod Lines
pub mod Printed
pub mod Fates
