-- Laws of steps, one subject a file.
pub mod Moving
pub mod Stepping
