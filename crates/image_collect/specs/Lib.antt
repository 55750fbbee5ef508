-- The definitions that the contracts of `image_collect` cite.
pub mod Reading
