pub mod acceptance
pub mod grammars
pub mod refusals
