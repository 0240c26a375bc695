pub mod Texts
pub mod Pieces
pub mod Grammar
pub mod Answers
pub mod Cases
