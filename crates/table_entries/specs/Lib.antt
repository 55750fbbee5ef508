-- A key in its slot.
pub mod Steps
