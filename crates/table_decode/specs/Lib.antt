-- The definitions that the contracts of `table_decode` cite.
pub mod Decode
