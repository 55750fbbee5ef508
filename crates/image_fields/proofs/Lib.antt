-- Lemmas of fields over plain lists.
pub mod Putting
pub mod Getting
