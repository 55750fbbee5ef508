-- Laws of seeking, one subject a file.
pub mod Least
pub mod LeastOfRange
