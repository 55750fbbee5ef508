-- Laws of insert.
pub mod Inserting
