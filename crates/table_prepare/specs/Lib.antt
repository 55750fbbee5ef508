-- What a table or an image is made from.
pub mod Blank
pub mod Prepared
