-- Laws of scripts.
pub mod Replaying
pub mod Scripts
