-- `treap_ranks::ranks` meets its contract. The loop's invariant: the columns have the standings of the positions from
-- place `j` of the order on, and are as they were from `n` on. Assumes nothing.
use Prim.Native.Nat.{◌≤◌}
use lib.ListN.{length, take, drop}
use Rattle.treap_columns.proofs.Filled.{Kept}
use Rattle.treap_ranks.proofs.Ranking.{Ranked}
use Rattle.treap_ranks.proofs.ranks.Given as goal

abbrev pub invariant-loop-j : goal.invariant-loop-j
invariant-loop-j l = (l.j ≤ l.n)
    × Kept (length l.weights) l.initial.rank l.rank
    × Kept (length l.weights) l.initial.count l.count
    × Ranked l.alpha l.weights (drop l.j (take l.n l.order)) l.rank l.count
