-- Laws of the image, one subject a file.
pub mod ImageOrder
pub mod BlockRuns
pub mod Weights
pub mod BlockTurns
pub mod Bytes
pub mod Records
pub mod PartLengths
pub mod Lengths
pub mod Reading
pub mod Judging
pub mod Fits
