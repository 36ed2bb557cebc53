-- The definitions that the contracts of `player` cite.
pub mod Played
