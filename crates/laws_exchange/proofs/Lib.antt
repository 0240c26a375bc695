pub mod calls
pub mod completion
pub mod demand_2
pub mod demand_3
