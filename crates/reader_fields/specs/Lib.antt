pub mod Lines
pub mod Marks
pub mod Names
pub mod Runs
