pub mod Laws
pub mod Refusing
pub mod Modified
