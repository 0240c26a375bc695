pub mod Lists
pub mod Backs
pub mod Refusals
