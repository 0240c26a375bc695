pub mod Bounds
pub mod Shown
