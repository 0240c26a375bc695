pub mod Lines
pub mod Ready
pub mod Sizes
