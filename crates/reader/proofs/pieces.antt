pub mod Longer
pub mod Data
pub mod Fronts
pub mod Loop
pub mod Stored
