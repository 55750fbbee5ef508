-- Laws of the limits of tables.
pub mod Lengths
