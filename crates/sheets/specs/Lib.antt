-- The definitions that the contracts of `sheets` cite: forms of text, digits, and the shape of a line.
pub mod Forms
pub mod Digits
pub mod Shapes
pub mod Elements
pub mod Lines
pub mod Outputs
pub mod Copies
pub mod Reports
pub mod Splitting
