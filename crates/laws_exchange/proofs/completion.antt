pub mod Spans
pub mod Fill
pub mod Gaps
pub mod Asked
pub mod Round
pub mod Singles
pub mod Served
