-- Laws of looking up, and its promised ceiling.
pub mod LookingUp
pub mod Told
pub mod Claims
