pub mod Agreements
pub mod Stretches
