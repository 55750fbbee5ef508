-- How long the lines of a listing are.
pub mod Lengths
