-- The bytes of an image from the columns of its keys, by index, and where they are written.
pub mod Parts
pub mod Written
