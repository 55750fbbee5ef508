-- Definitions on lists.
pub mod Lists
