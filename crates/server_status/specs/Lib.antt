pub mod Deciding
pub mod Early
