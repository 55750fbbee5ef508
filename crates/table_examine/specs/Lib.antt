-- Examining a table.
pub mod Examine
