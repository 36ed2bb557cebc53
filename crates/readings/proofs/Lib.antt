-- Lemmas on the grids of the formats, the laws of rounding, numbers in limbs, and what the code reads off them. Assumes nothing.
pub mod Cases
mod Grid
mod Patterns
mod Sizes
pub mod Directions
pub mod Rules
mod Naturals
mod Bounds
mod Remainders
mod Kept
mod Widths
mod Marked
