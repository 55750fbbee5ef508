-- Lemmas of the links over plain lists and trees.
pub mod Segments
pub mod Ranking
pub mod Untouched
pub mod Overtaking
pub mod Passing
pub mod Narrowing
pub mod OneColumn
pub mod Growth
