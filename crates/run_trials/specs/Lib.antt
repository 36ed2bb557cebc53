-- The definitions that the contracts of `run_trials` cite.
pub mod Duo
pub mod Laws
