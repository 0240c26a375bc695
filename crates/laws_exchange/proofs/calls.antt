pub mod Events
pub mod Answer
pub mod Cells
pub mod One
pub mod Says
pub mod Complete
pub mod Calls
