-- Laws of measures: what is stored shows them again, so do tags, lists of lengths and corrections are lists of them, and corrections are handed
-- on and read back as they are.
pub mod Integers
pub mod Stored
pub mod Tags
pub mod Corrections
pub mod Beside
