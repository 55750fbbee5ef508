-- The definitions that the contracts of `intervals` cite.
pub mod Intervals
