-- The printed pages of what a table holds, what is claimed of them, and how they are written from lists.
pub mod Pages
pub mod Claims
pub mod Shown
