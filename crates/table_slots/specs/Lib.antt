-- The skips of the slots.
pub mod Skips
