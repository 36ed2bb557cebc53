-- The definitions that the contracts of `condensers` cite, and the laws that both tables keep.
pub mod Meaning
pub mod Fields
pub mod Handed
pub mod Pairing
pub mod Columns
pub mod Laws
