-- Lemmas of `condensers` that several proofs share. Those that the laws of both tables rest on stand in `specs/Laws`.
pub mod Building
pub mod Entering
pub mod ColumnReads
