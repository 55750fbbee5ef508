-- Laws of digits and columns, and of text written piece by piece.
pub mod Examples
pub mod Decimal
pub mod Spelling
pub mod Columns
pub mod Pieces
pub mod Ongoing
