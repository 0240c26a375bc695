pub mod Measures
pub mod Window
