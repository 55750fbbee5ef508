-- Laws of batches of lookups, one subject a file.
pub mod KeysRise
pub mod LineByLine
pub mod Counting
pub mod LineFound
pub mod Batching
pub mod SmallBatches
