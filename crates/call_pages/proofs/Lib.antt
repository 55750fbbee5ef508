-- The pages of a sound table, and what lists of its keys show.
pub mod Printing
