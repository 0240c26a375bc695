pub mod Arrive
pub mod Fronts
pub mod Bytes
pub mod Laws
