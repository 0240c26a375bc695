pub mod Text
pub mod Whole
pub mod Byte
pub mod Part
