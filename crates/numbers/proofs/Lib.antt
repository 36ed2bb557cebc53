-- Lemmas of `numbers` that several proofs share.
pub mod Scale
pub mod Summands
pub mod Values
pub mod Window
pub mod Encoding
pub mod Halving
pub mod Floats
pub mod Tested
