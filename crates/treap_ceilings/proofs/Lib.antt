-- The proofs of the ceilings, one subject a file.
pub mod Worked
pub mod RankSizes
pub mod RootRank
pub mod LevelsMet
pub mod LevelsUsed
pub mod Unbranched
pub mod Subsequences
pub mod FullBlocks
pub mod FullKeys
pub mod BlockClaims
pub mod Claims
