-- Histories written down in words.
pub mod Script
