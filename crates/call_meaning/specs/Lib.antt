-- What each call replies and leaves behind.
pub mod Reasons
pub mod Calls
