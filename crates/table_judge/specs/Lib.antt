-- Deciding whether a table is sound.
pub mod Judge
