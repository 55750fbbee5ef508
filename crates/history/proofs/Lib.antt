-- Laws of histories, one subject a file; `Claims` has demands 3 and 2 whole.
pub mod Refused
pub mod Answering
pub mod Asking
pub mod Entering
pub mod BookRules
pub mod Running
pub mod Loads
pub mod Agreeing
pub mod Claims
pub mod Tested
pub mod HypothesesMet
pub mod Salted
