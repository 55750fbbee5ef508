-- Facts about the definitions of this crate by themselves.
pub mod Examples
