pub mod Lists
pub mod SavedFiles
pub mod Sizes
