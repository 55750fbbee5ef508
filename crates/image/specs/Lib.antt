-- The image of what a table holds, and which bytes are one.
pub mod Layout
pub mod Image
