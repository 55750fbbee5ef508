-- The laws of `table_decode`.
mod Neighbours
mod Gathered
pub mod RisingKeys
pub mod Chunked
mod Collecting
mod SortedTags
pub mod SortedInPlace
