pub mod Quiet
pub mod Foreign
