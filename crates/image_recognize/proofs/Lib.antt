-- Laws of recognizing an image, one subject a file.
pub mod Recognizing
pub mod Answers
