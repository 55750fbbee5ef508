-- What is replied for a size.
pub mod Pointed
