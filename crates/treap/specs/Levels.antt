-- Iterated leaders, rank, count and leader (document 01, "Treap, ranks, leaders"; the paper's definitions 2 and 3 and its
-- size and leader fields), over any order `α`, priority function `p` and rising keys `ks`. Assumes nothing.
use Rattle.std.specs.Prelude.{cond, ◌||◌, List, [], ℕ, zero, suc, eqb, ltb, leb, length}
use Rattle.lists.specs.Lists.{keep, member, last, largest}
use Rattle.treap.specs.Treap.{keys, subtree, path, top, treap}

-- "If L(i−1) has more than one key, Li is the root with those keys of the treap on L(i−1) whose subtree there,
-- themselves counted, has at least α keys. Otherwise Li is empty."
unfoldable pub next_level : ℕ → (ℕ → ℕ) → List ℕ → List ℕ
next_level α p ks =
    cond (ltb 1 (length ks)) (keep (λ v. eqb v (top p ks) || leb α (length (keys (subtree v (treap p ks))))) ks) []

module _ (α : ℕ) (p : ℕ → ℕ) (ks : List ℕ) where
  -- L0, L1, ..: "L0 is all keys."
  abbrev pub level : ℕ → List ℕ
  level zero = ks
  level (suc i) = next_level α p (level i)

  -- "rank(v) is the largest i with v in Li." A level has fewer keys than the one before, so none beyond as many
  -- levels as there are keys holds any.
  unfoldable pub rank : ℕ → ℕ
  rank v = largest (λ i. member v (level i)) (length ks)

  -- "count(v) is how many keys of L(rank(v)) lie in v's subtree, v included."
  unfoldable pub count : ℕ → ℕ
  count v = length (keep (λ u. member u (keys (subtree v (treap p ks)))) (level (rank v)))

  -- "leader(v) is v's deepest ancestor in L(rank(v)+1); zero for the root", which has none there: L(rank(root)+1) is empty.
  unfoldable pub leader : ℕ → ℕ
  leader v = last (keep (λ u. member u (level (suc (rank v)))) (path v (treap p ks)))
