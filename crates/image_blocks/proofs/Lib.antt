-- Lemmas of names and runs over plain lists.
pub mod Weights
pub mod Ending
