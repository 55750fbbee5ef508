-- The step by which leaders are made. Only the contract of an inner function cites it. Assumes nothing.
use Rattle.std.specs.Prelude.{cond, List, ℕ, zero, suc, ltb, get_or, set}

-- The column of leaders with that of a child written: its parent, by its index, where that has the higher rank, else the
-- parent's leader. No child, no change.
abbrev pub handed_down : ℕ → ℕ → List ℕ → List ℕ → List ℕ
handed_down parent zero rank leader = leader
handed_down parent (suc child) rank leader =
    set leader child (cond (ltb (get_or rank child 0) (get_or rank parent 0)) (suc parent) (get_or leader parent 0))
