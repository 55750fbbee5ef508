-- Laws of judging.
pub mod Decides
