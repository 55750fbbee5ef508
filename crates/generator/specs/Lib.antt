-- The generator.
pub mod Generator
