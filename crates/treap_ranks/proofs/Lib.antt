-- Lemmas of the ranks over plain lists and trees.
pub mod Ranking
pub mod RankTurn
