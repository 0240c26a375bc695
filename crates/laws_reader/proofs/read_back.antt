pub mod Plain
pub mod ReadBack
