-- Laws of the entries of a sound table, one subject a file.
pub mod Answers
pub mod Fields
