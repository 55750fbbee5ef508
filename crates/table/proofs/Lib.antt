-- Laws of the table's words, one subject a file.
pub mod Orders
pub mod Entries
pub mod Tagged
pub mod Words
pub mod Held
pub mod Reading
pub mod Soundness
pub mod Blank
