pub mod calendar
pub mod texts
