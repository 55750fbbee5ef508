-- The printed pages of a table as a call.
pub mod Paged
