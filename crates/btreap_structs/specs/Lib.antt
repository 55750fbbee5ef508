-- The replies as structs of numbers.
pub mod Structs
