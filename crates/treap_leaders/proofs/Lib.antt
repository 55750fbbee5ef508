-- Lemmas of the leaders over plain lists and trees.
pub mod Leading
pub mod LeaderTurn
