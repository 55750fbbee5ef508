-- `call_delete::delete` meets its contract. Assumes nothing.
use mathlib.Core.Path.{sym, ◌∙◌}
use native.Mathlib.Omega.{arith}
use lib.ListN.{length}
use Rattle.table_limits.proofs.Lengths.{slots_sized}
use Rattle.call_delete.proofs.Deleting.{refused_length, refused_zero}
use Rattle.call_delete.proofs.delete.Goals as goal

pub returns-in_default : goal.returns-in_default
returns-in_default c =
    let met = refused_length c.args.table.now c.args.key (sym c.slots_for.ensures ∙ c.in_default.is) in
    record { result_value = met.0; table_after = met.1 }

pub returns-then-key-eq0 : goal.returns-then-key-eq0
returns-then-key-eq0 c =
    let met = refused_zero c.args.table.now c.args.key _ (sym c.slots_for.ensures ∙ c.in-Some.is) c.if-key-eq0.true in
    record { result_value = met.0; table_after = met.1 }

pub delete_with_room-requires : goal.delete_with_room-requires
delete_with_room-requires c =
    let right = slots_sized (length c.args.table.now) _ (sym c.slots_for.ensures ∙ c.in-Some.is) in
    let positive = c.if-key-eq0.false in
    (omega (arith, right.some), right.within, right.long, omega arith)
