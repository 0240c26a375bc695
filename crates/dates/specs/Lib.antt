pub mod Calendars
pub mod Pieces
pub mod Readings
pub mod Times
pub mod Written
