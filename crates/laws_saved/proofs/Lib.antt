pub mod Buffers
pub mod Tests
pub mod Places
pub mod Runs
pub mod Units
pub mod Reached
pub mod Outcomes
pub mod Laws
