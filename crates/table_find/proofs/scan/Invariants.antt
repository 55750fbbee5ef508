-- `table_find::scan` meets its contract. The loop's invariant: what is sought is the first to stop at of the slots left. Assumes nothing.
use mathlib.Core.Path.{◌≡◌}
use Rattle.table_find.specs.Find.{scanned}
use Rattle.table_find.proofs.scan.Given as goal

abbrev pub invariant-loop-slot : goal.invariant-loop-slot
invariant-loop-slot l = scanned l.table l.slot l.high l.key ≡ scanned l.table l.low l.high l.key
