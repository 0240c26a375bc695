pub mod Cases
pub mod Listing
pub mod Members
pub mod Placing
pub mod RangeSets
pub mod Reads
pub mod Resolves
pub mod Tallies
