-- The size of a last in half points, and what is claimed of it.
pub mod Points
pub mod Claims
