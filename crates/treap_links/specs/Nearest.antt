-- Outranking among the indices of a list of weights, and the nearest index on either side that outranks a given one.
-- Assumes nothing.
use Rattle.std.specs.Prelude.{true, List, ◌≡◌, ℕ, suc, ◌-◌, ◌<◌, ◌≤◌, length, get_or}
use Rattle.treap.specs.Treap.{outranks}
use Rattle.treap_columns.specs.Positions.{weight_at}

-- The index `i` outranks the index `j`.
abbrev pub Over : List ℕ → ℕ → ℕ → Type 0
Over weights i j = outranks (weight_at weights) (suc i) (suc j) ≡ true

-- The nearest index before `i` that outranks it has the position `b`; where there is none, `b` is 0.
pub record NearestBefore (weights : List ℕ) (i b : ℕ) : Type 0 where
  pub back : b ≤ i
  pub passed : (x : ℕ) → b ≤ x → x < i → Over weights i x
  pub outranked : 0 < b → Over weights (b - 1) i

-- Of the indices below `seen`, `a` is the nearest after `i` that outranks it; where there is none, `a` is the length of the list.
pub record NearestAfter (weights : List ℕ) (seen i a : ℕ) : Type 0 where
  pub on : i < a
  pub upto : a ≤ length weights
  pub passed : (x : ℕ) → i < x → x < a → x < seen → Over weights i x
  pub outranked : a < length weights → (a < seen) × Over weights a i

-- From index `lo` up to `hi`, `left` holds the nearest before and `right` the nearest after, of the indices below `seen`.
unfoldable pub Nearest : List ℕ → ℕ → ℕ → ℕ → List ℕ → List ℕ → Type 0
Nearest weights seen lo hi left right =
    (x : ℕ) → lo ≤ x → x < hi → NearestBefore weights x (get_or left x 0) × NearestAfter weights seen x (get_or right x 0)
