pub mod Anchors
pub mod Loads
pub mod Readings
pub mod Chains
pub mod SavedChains
