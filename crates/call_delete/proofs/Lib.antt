-- Laws of delete.
pub mod Deleting
