pub mod Accepting
pub mod Asking
pub mod Demand2
