-- `call_load::operate_all` meets its contract. The loop's invariant: what is left of the operations makes of the table's set what all of them
-- make of none. Assumes nothing.
use mathlib.Core.Path.{◌≡◌}
use Prim.Native.Nat.{◌-◌, ◌≤◌}
use lib.ListN.{length}
use Rattle.call_load.proofs.Repeating.{Under}
use Rattle.call_load.proofs.operate_all.Given as goal

abbrev pub invariant-loop : goal.invariant-loop
invariant-loop l =
    Under l.many l.initial.table l.seed l.count l.table l.keys l.tags l.state (l.count - l.counter) × (l.counter ≤ l.count) × (length l.table ≡ length l.initial.table) × (length l.keys ≡ length l.initial.keys) × (length l.tags ≡ length l.initial.tags)
