-- Lemmas of `runs` that several proofs share.
pub mod Bags
pub mod Elements
pub mod Playing
pub mod Told
mod Agreements
pub mod LineTexts
mod EnteredLines
