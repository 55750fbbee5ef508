-- The structure theorems of the treap, one subject a file. They need an order of at least 2 and rising keys, no more; `Children`, `Entrances` and
-- `MetBetween` also that no key is zero.
pub mod Outranking
pub mod Shape
pub mod Split
pub mod Subtrees
pub mod Prune
pub mod Fold
pub mod Within
pub mod Ranks
pub mod Paths
pub mod Leaders
pub mod Columns
pub mod Ancestors
pub mod Blocks
pub mod BlockSizes
pub mod BlockTree
pub mod SearchPath
pub mod Descent
pub mod PathsThrough
pub mod Children
pub mod Entrances
pub mod MetBetween
pub mod NewBlocks
pub mod Relabel
pub mod Bounds
