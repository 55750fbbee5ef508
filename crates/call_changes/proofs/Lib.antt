-- Laws that insert, delete and a load share, one subject a file.
pub mod Sets
pub mod Written
pub mod Knowing
pub mod Editing
pub mod Loading
pub mod Judging
