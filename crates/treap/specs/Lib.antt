-- The literal definitions of document 01, with document 02's fill and measures: treap, levels, blocks, slots, image; and the examples A to H.
pub mod Treap
pub mod Levels
pub mod Blocks
pub mod Slots
pub mod Image
pub mod Examples
