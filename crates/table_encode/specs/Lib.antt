-- The words of a table from the columns of its keys.
pub mod Encode
