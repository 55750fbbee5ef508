-- Histories of calls, the book kept of them, the claims about both, the claims that the tests of refusals are the sentences and that no claim
-- is empty, and those on salts.
pub mod Call
pub mod Book
pub mod Theorems
pub mod Tests
pub mod Hypotheses
pub mod Salts
