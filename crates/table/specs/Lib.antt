-- The table: the layout of its words, what it holds, the words for what it holds, and the test of soundness.
pub mod Layout
pub mod Contents
pub mod Tags
pub mod Table
pub mod Sound
