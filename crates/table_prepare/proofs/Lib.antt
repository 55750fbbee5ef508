-- Laws of preparing.
pub mod Writable
pub mod Preparing
