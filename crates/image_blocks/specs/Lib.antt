-- The names of blocks as weights, and the runs of one weight.
pub mod Naming
pub mod Runs
