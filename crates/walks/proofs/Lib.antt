-- Laws for proofs by hand, one subject a file.
pub mod TwoFacts
pub mod Bodies
pub mod PartlyChanged
