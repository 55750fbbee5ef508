-- Laws of comparing lists.
pub mod SameBytes
