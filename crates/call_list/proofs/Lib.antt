-- Laws of the listing as a call.
pub mod Calling
