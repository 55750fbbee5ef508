-- The lemmas of `priority`: `Bounds` is for the crates above it, the others for its own proofs.
mod Table
mod Terms
pub mod Bounds
