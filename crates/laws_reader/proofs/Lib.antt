pub mod Stages
pub mod at_once
pub mod foreign_answers
pub mod own_answers
pub mod read_back
pub mod rules_kept
pub mod storing
