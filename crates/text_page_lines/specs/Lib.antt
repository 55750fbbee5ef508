-- The lines of printed pages, and what is claimed of them.
pub mod PageLines
pub mod Claims
