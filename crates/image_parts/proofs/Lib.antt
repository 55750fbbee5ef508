-- Lemmas of writing the parts of an image over plain lists.
pub mod Counting
pub mod Nodes
pub mod Passing
pub mod Whole
pub mod Room
