-- How high the rank of a treap's root can be, and how many blocks a search can meet (document 02, N7). Assumes nothing.
use Rattle.std.specs.Prelude.{cond, ℕ, ◌-◌, eqb}
use Rattle.lists.specs.Lists.{rounded_up}

-- "With n keys, n at least 1, the root's rank is at most (n − 1)/(α − 1) rounded up".
unfoldable pub rank_ceiling : ℕ → ℕ → ℕ
rank_ceiling α n = rounded_up (n - 1) (α - 1)

-- "And a lookup meets at most that many blocks, or one when the rank is 0".
unfoldable pub blocks_ceiling : ℕ → ℕ → ℕ → ℕ
blocks_ceiling α n rank = cond (eqb rank 0) 1 (rank_ceiling α n)
