-- Numbers as text, text in columns, and text in its place in an output.
pub mod Ascii
pub mod Digits
pub mod Columns
pub mod Written
