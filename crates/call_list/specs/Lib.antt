-- The listing of an image as a call.
pub mod Listed
