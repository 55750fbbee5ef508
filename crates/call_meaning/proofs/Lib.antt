-- Laws that the calls share, one subject a file.
pub mod Judged
pub mod Shows
pub mod Texts
pub mod Lookups
