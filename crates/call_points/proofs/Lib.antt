-- Laws of the answers.
pub mod Answering
