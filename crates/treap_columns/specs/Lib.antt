-- The columns of a rising list of keys, over positions.
pub mod Positions
pub mod Columns
pub mod Blank
pub mod Lent
