-- Laws of changing a list in place and of the sets that it holds, one subject a file.
pub mod Shifting
pub mod Placing
pub mod Members
mod WorkedLoads
