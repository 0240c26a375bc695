pub mod Demand3
pub mod Corollary
pub mod Cases
pub mod Limits
pub mod LimitCases
pub mod Served
pub mod Overnight
pub mod OvernightCase
