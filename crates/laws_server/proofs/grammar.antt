pub mod Bytes
pub mod Letters
pub mod Blanks
pub mod Commas
pub mod Specs
pub mod Complete
pub mod Sound
pub mod Reading
