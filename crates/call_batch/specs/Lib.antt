-- A batch of lookups: what it replies and what it leaves of its lines, how it is answered line by line, and what is claimed of small ones.
pub mod Batch
pub mod Answering
pub mod Claims
