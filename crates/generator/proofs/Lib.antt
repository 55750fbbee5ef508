-- Laws of products modulo 2^64.
pub mod Products
