-- The definitions that the contracts of `reports` cite.
pub mod Sheets
pub mod InMemory
