-- Laws of reading an image, one subject a file.
pub mod Nodes
pub mod Passing
pub mod Walking
pub mod Readable
