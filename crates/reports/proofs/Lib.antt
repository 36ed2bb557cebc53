-- Lemmas of `reports`.
mod Standing
mod InMemory
