pub mod Lies
pub mod Members
pub mod Insert
pub mod Scan
pub mod Holes
pub mod Spans
pub mod Next
pub mod Laws
