-- Lemmas of records over plain lists.
pub mod Fields
