-- What an image is written from.
pub mod Arranged
