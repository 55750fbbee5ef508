-- Laws of the search for a key's slot, one subject a file.
pub mod Searching
pub mod Scanning
pub mod Landing
pub mod Finding
pub mod Claims
