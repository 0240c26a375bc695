pub mod Alike
pub mod Leads
pub mod Numbers
pub mod Overwriting
