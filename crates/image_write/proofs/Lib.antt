-- Lemmas of writing an image over plain lists.
pub mod Arranging
pub mod RunsRenamed
pub mod ByIndex
pub mod Connected
