-- What is promised of every lookup in a sound table.
pub mod Claims
