-- The lookup of a key: its answer, alone and after others; and where it enters a new block.
pub mod Lookup
pub mod Places
pub mod Entering
