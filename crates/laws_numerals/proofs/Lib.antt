pub mod Laws
pub mod Bytes
