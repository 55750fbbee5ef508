-- The search for a key's slot, and what is claimed of it.
pub mod Find
pub mod Claims
