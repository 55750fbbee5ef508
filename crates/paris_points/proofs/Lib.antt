-- The worked sizes, laws of corrected lengths, sizes and rests, and the claims.
pub mod Worked
pub mod Thirds
pub mod Lengths
pub mod Sizes
pub mod Claims
