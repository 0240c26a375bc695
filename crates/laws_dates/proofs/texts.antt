pub mod Tests
pub mod Digits
pub mod Centuries
pub mod Names
pub mod Fields
pub mod Reading
pub mod Grammar
pub mod Matching
