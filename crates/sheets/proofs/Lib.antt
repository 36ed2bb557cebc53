-- Lemmas that the proofs of `sheets` share.
pub mod Forms
pub mod Numerals
pub mod Fields
pub mod Counted
pub mod Leading
pub mod Literals
pub mod Entire
pub mod Chunks
pub mod Trips
pub mod Outputs
pub mod Words
