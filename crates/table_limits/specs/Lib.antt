-- The definition that the contract of `table_limits::slots_for` cites.
pub mod Lengths
