pub mod Holes
pub mod Lists
pub mod Looks
pub mod States
pub mod Steps
