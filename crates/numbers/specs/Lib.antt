-- The definitions that the contracts of `numbers` cite: values in units, refusals, products, acceptance, and what each kind of number makes of an element.
pub mod Units
pub mod Refusals
pub mod Products
pub mod Acceptance
pub mod Patterns
pub mod Counts
