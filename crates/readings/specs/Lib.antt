-- The definitions that the contracts of the readings cite.
pub mod Formats
pub mod Rounding
pub mod Rounded
pub mod Laws
pub mod Limbs
pub mod Sums
pub mod Readings
pub mod Names
pub mod MarkedCases
