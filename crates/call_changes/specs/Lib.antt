-- What the contracts of insert, delete and a load on a table that is known to be sound cite.
pub mod Known
pub mod Done
