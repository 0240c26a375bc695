pub mod Fronts
pub mod Laws
pub mod Looks
pub mod Numbers
