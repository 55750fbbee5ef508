-- Lemmas of encoding over plain lists.
pub mod Stores
pub mod Emitting
pub mod Matching
pub mod Renaming
pub mod Fresh
pub mod Standings
pub mod Linking
