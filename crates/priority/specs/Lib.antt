-- The definitions that the contracts of `priority` cite.
pub mod Priority
