-- Lemmas of `exports`.
mod Dots
