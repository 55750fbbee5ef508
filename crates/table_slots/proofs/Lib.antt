-- Lemmas of the slots over plain lists.
pub mod Probing
pub mod Skipping
pub mod Placing
pub mod Placed
pub mod RelabelSlots
