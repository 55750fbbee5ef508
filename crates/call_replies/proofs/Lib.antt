-- Laws of replies.
pub mod Refusals
