-- What the calls reply.
pub mod Replies
