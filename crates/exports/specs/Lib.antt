-- The definitions that the contracts of `exports` cite.
pub mod Answers
