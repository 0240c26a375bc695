pub mod Bodies
pub mod Heads
pub mod Lengths
pub mod Lines
pub mod Responses
pub mod Starts
