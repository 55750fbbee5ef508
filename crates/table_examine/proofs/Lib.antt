-- Laws of examining.
pub mod Verdicts
pub mod Examined
mod Measured
mod KeysRead
