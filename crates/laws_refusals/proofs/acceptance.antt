pub mod Fields
pub mod Heads
pub mod Values
pub mod Judging
pub mod Lines
pub mod Taking
pub mod Standing
