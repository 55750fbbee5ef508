-- The definitions that the contracts of `table_least` cite.
pub mod LeastKey
