-- Reading a range key by key.
pub mod Steps
