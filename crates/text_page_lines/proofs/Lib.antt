-- The lines worked out, laws of their columns, and the claims.
pub mod Worked
pub mod Columns
pub mod Claims
