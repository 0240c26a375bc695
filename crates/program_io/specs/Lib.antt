pub mod Ends
pub mod Fills
pub mod Loads
pub mod Packed
pub mod Times
