-- `call_range::range` meets its contract. Assumes nothing.
use mathlib.Core.Logic.{◌≢◌}
use mathlib.Core.Path.{sym, ◌∙◌}
use native.Mathlib.Omega.{arith}
use lib.ListN.{length}
use Rattle.table_limits.specs.Lengths.{slots_for}
use Rattle.table_limits.proofs.Lengths.{slots_none, slots_some, slots_sized}
use Rattle.call_range.proofs.Ranging.{refused_length, refused_order}
use Rattle.call_range.proofs.range.Goals as goal
use Rattle.call_range.proofs.range.Goals.{In-Some}

some : (p : In-Some) → slots_for (length p.args.table.now) ≢ 0
some p e = let told = slots_some _ _ (sym p.slots_for.ensures ∙ p.in-Some.is) in omega (arith, told.0, told.1, e)

pub returns-in_default : goal.returns-in_default
returns-in_default c =
    refused_length c.args.table.now c.args.low c.args.high c.args.output.now (slots_none _ (sym c.slots_for.ensures ∙ c.in_default.is))

pub returns-then-high-low : goal.returns-then-high-low
returns-then-high-low c =
    refused_order c.args.table.now c.args.low c.args.high c.args.output.now (some (goal.at.returns-then-high-low c).In-Some) c.if-high-low.true

pub range_with_room-requires : goal.range_with_room-requires
range_with_room-requires c =
    let right = slots_sized _ _ (sym c.slots_for.ensures ∙ c.in-Some.is) in
    (right.some, right.within, right.long, c.if-high-low.false)
