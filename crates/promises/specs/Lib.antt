pub mod Scheme
pub mod Trial
pub mod Calls
pub mod Promise
pub mod Settled
