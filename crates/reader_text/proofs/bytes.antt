pub mod Status
pub mod Laws
pub mod Keeps
