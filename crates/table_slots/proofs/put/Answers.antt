-- `table_slots::put` meets its contract. Assumes nothing.
use mathlib.Core.List.{List}
use mathlib.Core.Path.{◌≡◌, sym, ◌∙◌}
use Prim.Native.Nat.{ℕ, ◌<◌}
use native.Mathlib.Omega.{arith}
use lib.ListN.{length}
use Rattle.table_slots.proofs.Probing.{after, after_last, after_other}
use Rattle.table_slots.proofs.Skipping.{skips_taken}
use Rattle.table_slots.proofs.put.Goals as goal
use Rattle.table_slots.proofs.put.Goals.{Joined-next-slots, else-next-slots, then-next-slots}

-- where the skip is written: the slot found, which is there, and the slot after it
module _ (c : Joined-next-slots) where
  abbrev slots : List ℕ
  slots = c.args.slots.now

  inside : c.first_empty-at.result < length slots
  inside = omega (arith, c.first_empty-at.ensures.value, c.requires.home_in_bounds.1)

  goes_on : c.if-next-slots.next ≡ after (length slots) c.first_empty-at.result
  goes_on =
      elim c.if-next-slots.branch [
        | then-next-slots w ↦ w.next-is ∙ sym (after_last (length slots) c.first_empty-at.result w.if-next-slots.true)
        | else-next-slots w ↦ w.next-is ∙ sym (after_other (length slots) c.first_empty-at.result w.if-next-slots.false)
      ]

pub returns-clause-skips_after : goal.returns-clause-skips_after
returns-clause-skips_after c = let p = (goal.at.returns-clause-skips_after c).Joined-next-slots in rw (goes_on p) (skips_taken (slots p) _ c.first_empty-at.ensures.skips_after c.first_empty-at.result c.args.position (inside p) c.requires.home_in_bounds.3)
