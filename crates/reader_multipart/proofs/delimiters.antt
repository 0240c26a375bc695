pub mod Delimiters
pub mod Feeding
pub mod Loops
pub mod Steps
