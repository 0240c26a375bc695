pub mod Lines
pub mod Parsers
pub mod Passing
pub mod Steps
