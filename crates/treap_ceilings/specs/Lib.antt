-- The ceilings that document 02 promises for the treap of any keys, and what is claimed of them.
pub mod BlockClaims
pub mod Ceiling
pub mod Claims
