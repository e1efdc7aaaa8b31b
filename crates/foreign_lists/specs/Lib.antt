pub mod Reversal
pub mod Rules
