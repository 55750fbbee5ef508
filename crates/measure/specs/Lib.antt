-- The measure beside a key: its rules, how it is stored, and the one number that it goes as.
pub mod Measure
pub mod Tag
