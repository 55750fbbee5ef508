-- `table_slots::first_empty` meets its contract. The loop's invariant: from here on the same slot is the first empty one. Assumes nothing.
use mathlib.Core.Path.{◌≡◌, sym, ◌∙◌}
use mathlib.Core.List.{List}
use Prim.Native.Nat.{ℕ, ◌<◌}
use native.Mathlib.Omega.{arith}
use lib.ListN.{length, get_or, length-set}
use Rattle.treap.specs.Slots.{first_empty}
use Rattle.table_slots.proofs.Skipping.{taken_from, ends_here, step_nearer, skips_shortened}
use Rattle.table_slots.proofs.first_empty.Goals as goal
use Rattle.table_slots.proofs.first_empty.Goals.{In-loop-at}

-- a turn: its slot is taken, and its skip leads nearer to the first empty one
module _ (c : In-loop-at) where
  abbrev slots : List ℕ
  slots = c.args.slots.now

  abbrev next : ℕ
  next = get_or c.loop-at.skip c.loop-at.at 0

  nearer : (next < length slots) × (first_empty slots next ≡ first_empty slots c.loop-at.at) × (taken_from slots next < taken_from slots c.loop-at.at)
  nearer = step_nearer slots c.loop-at.skip c.loop-at.invariant.3 c.loop-at.at c.loop-at.invariant.0 c.loop-at-test.true (omega (arith, c.loop-at.invariant.1, c.requires.home_in_bounds.1))

pub bounds-skip-next : goal.bounds-skip-next
bounds-skip-next c = omega (arith, nearer (goal.at.bounds-skip-next c).In-loop-at, c.loop-at.invariant.3.room)

pub loop-at-smaller : goal.loop-at-smaller
loop-at-smaller c = (nearer (goal.at.loop-at-smaller c).In-loop-at).2

pub loop-at-preserved : goal.loop-at-preserved
loop-at-preserved c =
    let loop = c.loop-at in
    let (inside, same, _) = nearer (goal.at.loop-at-preserved c).In-loop-at in
    (inside, same ∙ loop.invariant.1, simp length-set loop.invariant.2, skips_shortened (slots (goal.at.loop-at-preserved c).In-loop-at) loop.skip loop.invariant.3 loop.at loop.invariant.0 c.loop-at-test.true inside)

pub returns-clause-value : goal.returns-clause-value
returns-clause-value c =
    let loop = c.loop-at in sym (ends_here c.args.slots.now loop.at loop.invariant.0 c.loop-at-test.false) ∙ loop.invariant.1
