pub mod Begun
pub mod Calls
pub mod Fitting
pub mod Loops
pub mod Rules
pub mod Steps
