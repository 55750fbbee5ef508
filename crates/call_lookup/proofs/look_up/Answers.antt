-- `call_lookup::look_up` meets its contract. Assumes nothing.
use mathlib.Core.Logic.{◌≢◌}
use mathlib.Core.Path.{sym, ◌∙◌}
use native.Mathlib.Omega.{arith}
use lib.ListN.{length}
use Rattle.table_limits.specs.Lengths.{slots_for}
use Rattle.table_limits.proofs.Lengths.{slots_none, slots_some}
use Rattle.call_lookup.proofs.LookingUp.{refused_length, refused_zero}
use Rattle.call_lookup.proofs.look_up.Goals as goal
use Rattle.call_lookup.proofs.look_up.Goals.{In-Some}

some : (p : In-Some) → slots_for (length p.args.table.now) ≢ 0
some p e = let told = slots_some _ _ (sym p.slots_for.ensures ∙ p.in-Some.is) in omega (arith, told.0, told.1, e)

pub returns-in_default : goal.returns-in_default
returns-in_default c = refused_length c.args.table.now c.args.key (slots_none _ (sym c.slots_for.ensures ∙ c.in_default.is))

pub returns-then-key-eq0 : goal.returns-then-key-eq0
returns-then-key-eq0 c = refused_zero c.args.table.now c.args.key (some (goal.at.returns-then-key-eq0 c).In-Some) c.if-key-eq0.true

pub look_up_in-requires : goal.look_up_in-requires
look_up_in-requires c =
    let told = slots_some _ _ (sym c.slots_for.ensures ∙ c.in-Some.is) in
    (sym told.0, told.1, omega (arith, c.if-key-eq0.false))
