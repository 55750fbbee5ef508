-- `table_encode::emit` meets its contract. The loop's invariant: the first s slots are written. Assumes nothing.
use Rattle.treap_columns.specs.Lent.{lists_of}
use mathlib.Core.Path.{◌≡◌}
use lib.ListN.{length}
use Rattle.table_encode.proofs.Emitting.{Emitted}
use Rattle.table_encode.proofs.emit.Given as goal

abbrev pub invariant-loop-s : goal.invariant-loop-s
invariant-loop-s l = (l.s-end ≡ length l.slots) × Emitted l.keys l.tags (lists_of l.columns) l.slots l.initial.table l.table l.s
