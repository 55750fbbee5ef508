-- Laws of a range.
pub mod Ranging
