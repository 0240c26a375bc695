pub mod Looks
pub mod Rooms
pub mod States
pub mod Sizes
