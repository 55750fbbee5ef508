-- Laws of writing and reading an image, one subject a file.
pub mod Imaging
pub mod Reading
