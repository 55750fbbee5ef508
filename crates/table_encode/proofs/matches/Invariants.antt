-- `table_encode::matches` meets its contract. The loop's invariant: the words before slot s are those of the columns. Assumes nothing.
use Rattle.treap_columns.specs.Lent.{lists_of}
use mathlib.Core.Path.{◌≡◌}
use lib.ListN.{length}
use Rattle.table_encode.proofs.Matching.{Matched}
use Rattle.table_encode.proofs.matches.Given as goal

abbrev pub invariant-loop-s : goal.invariant-loop-s
invariant-loop-s l = (l.s-end ≡ length l.slots) × Matched l.order l.salt l.keys l.tags l.root (lists_of l.columns) l.slots l.table l.s
