-- `call_build::set_up` meets its contract. Assumes nothing.
use mathlib.Core.Bool.{true, not}
use mathlib.Core.Logic.{◌≢◌}
use mathlib.Core.Path.{◌≡◌, sym, ap, ◌∙◌}
use Prim.Native.Nat.{◌<◌}
use native.Mathlib.Omega.{arith}
use lib.ListN.{length, length-replicate, length-set, replicate}
use Rattle.std.specs.Prelude.{is_some}
use Rattle.table.specs.Layout.{salt_word}
use Rattle.table.specs.Contents.{new_order}
use Rattle.table_limits.specs.Lengths.{slots_for}
use Rattle.table_limits.proofs.Lengths.{slots_for_some}
use Rattle.call_build.proofs.SettingUp.{no_slots, some_slots, refused_length, refused_order, accepted}
use Rattle.call_build.proofs.set_up.Goals as goal
use Rattle.call_build.proofs.set_up.Goals.{After-fill, Else-is_none, Else-not-is_new_order}

-- past the first test the words have a right length, past the second the order is right
right_length : (p : Else-is_none) → slots_for (length p.args.table.now) ≢ 0
right_length p = some_slots _ (ap is_some (sym p.slots_for.ensures) ∙ p.is_none.ensures ∙ ap not p.if-is_none.false)

right_order : (p : Else-not-is_new_order) → new_order p.args.order ≡ true
right_order p = sym p.is_new_order.ensures ∙ p.if-not-is_new_order.false

-- the words are zero then, and more than the header's
cleared : (p : After-fill) → p.fill.new.self ≡ replicate (length p.args.table.now) 0
cleared p = p.fill.ensures.after (λ y e. e)

cleared_long : (p : After-fill) → salt_word < length p.fill.new.self
cleared_long p =
    let right = slots_for_some (length p.args.table.now) (right_length (goal.at.After-fill p).Else-is_none) in
    let long : length p.fill.new.self ≡ length p.args.table.now = ap length (cleared p) ∙ length-replicate (length p.args.table.now) 0 in
    omega (arith, right.some, right.long)

pub returns-then-is_none : goal.returns-then-is_none
returns-then-is_none c =
    let none = no_slots _ (ap is_some (sym c.slots_for.ensures) ∙ c.is_none.ensures ∙ ap not c.if-is_none.true) in
    let met = refused_length c.args.table.now c.args.order c.args.salt none in
    record { result_value = met.0; table_after = met.1 }

pub returns-then-not-is_new_order : goal.returns-then-not-is_new_order
returns-then-not-is_new_order c =
    let some = right_length (goal.at.returns-then-not-is_new_order c).Else-is_none in
    let met = refused_order c.args.table.now c.args.order c.args.salt some (sym c.is_new_order.ensures ∙ c.if-not-is_new_order.true) in
    record { result_value = met.0; table_after = met.1 }

pub bounds-table-0 : goal.bounds-table-0
bounds-table-0 c = omega (arith, cleared_long (goal.at.bounds-table-0 c).After-fill)

pub bounds-table-3 : goal.bounds-table-3
bounds-table-3 c = simp length-set (cleared_long (goal.at.bounds-table-3 c).After-fill)

pub returns : goal.returns
returns c =
    let at = goal.at.returns c in
    let met = accepted c.args.table.now c.args.order c.args.salt (right_length at.Else-is_none) (right_order at.Else-not-is_new_order) c.fill.new.self (cleared at.After-fill) in
    record { result_value = met.0; table_after = met.1 }
