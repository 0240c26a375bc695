pub mod Anchors
pub mod Answers
pub mod Chains
pub mod Numbers
pub mod Reads
pub mod Requests
pub mod Saves
