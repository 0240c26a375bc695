pub mod Arrays
pub mod Cases
pub mod Laws
pub mod Members
pub mod Tally
