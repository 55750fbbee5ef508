-- The links of the positions of a part of the list, in the order of positions. Assumes nothing.
use Rattle.std.specs.Prelude.{List, map, ℕ, suc, ◌-◌}
use Rattle.lists.specs.Lists.{up_from}
use Rattle.treap.specs.Treap.{left_link, right_link}
use Rattle.treap_columns.specs.Positions.{weight_at}

-- The positions of the indices from `lo` up to `hi`.
abbrev pub between : ℕ → ℕ → List ℕ
between lo hi = up_from (suc lo) (hi - lo)

-- The links of each of them in the treap of these positions.
unfoldable pub left_links : List ℕ → ℕ → ℕ → List ℕ
left_links weights lo hi = map (left_link (weight_at weights) (between lo hi)) (between lo hi)

unfoldable pub right_links : List ℕ → ℕ → ℕ → List ℕ
right_links weights lo hi = map (right_link (weight_at weights) (between lo hi)) (between lo hi)
