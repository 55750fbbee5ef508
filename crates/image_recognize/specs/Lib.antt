-- The definitions that the contracts of `image_recognize` cite.
pub mod Recognize
