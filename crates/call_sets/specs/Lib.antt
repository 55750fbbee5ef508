-- A set of keys with a key more or a key less; indices in lists; the set that a load makes.
pub mod Sets
pub mod Indices
pub mod Load
