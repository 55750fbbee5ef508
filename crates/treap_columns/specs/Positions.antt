-- The positions of a list of keys, 1 to n, stand for the keys themselves: a rising list keeps their order, and zero again
-- means "no key". Columns of links and leaders are filled with positions. Assumes nothing.
use Rattle.std.specs.Prelude.{true, List, ◌≡◌, ℕ, suc, pred, ◌<◌, length, get_or}
use Rattle.lists.specs.Lists.{All, Pairwise, member, up_from}
use Rattle.treap.specs.Treap.{outranks}

-- Positions 1 to n.
abbrev pub positions : ℕ → List ℕ
positions n = up_from 1 n

-- The priority of a position: what stands there in the list of weights.
abbrev pub weight_at : List ℕ → ℕ → ℕ
weight_at weights position = get_or weights (pred position) 0

-- The list has each index of the weights, from 0 on, once, those before others whose positions outrank theirs.
pub record InOrder (weights : List ℕ) (order : List ℕ) : Type 0 where
  pub many : length order ≡ length weights
  pub indices : All (λ i. i < length weights) order
  pub complete : All (λ i. member i order ≡ true) (up_from 0 (length weights))
  pub ranked : Pairwise (λ i j. outranks (weight_at weights) (suc i) (suc j) ≡ true) order
