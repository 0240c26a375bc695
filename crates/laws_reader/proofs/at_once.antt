pub mod Steps
pub mod Moves
pub mod Stores
pub mod Laws
pub mod Loops
pub mod Lines
