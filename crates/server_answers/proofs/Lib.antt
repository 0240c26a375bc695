pub mod Multiparts
pub mod Laws
