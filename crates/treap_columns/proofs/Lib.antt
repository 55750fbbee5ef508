-- Lemmas of the columns over plain lists and trees.
pub mod Ordering
pub mod Filled
pub mod Children
pub mod PositionTree
pub mod Reading
pub mod Examples
