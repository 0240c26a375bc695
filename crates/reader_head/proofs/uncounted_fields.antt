pub mod Runs
pub mod Names
pub mod Counts
pub mod Feeding
