-- The text that lists an image, from what it holds and from its bytes, and what is claimed of listings.
pub mod Listing
pub mod Shown
pub mod Claims
pub mod Lines
