-- `table_judge::judge` meets its contract. Assumes nothing.
use mathlib.Core.Path.{sym, ap, ◌∙◌}
use native.Mathlib.Omega.{arith}
use lib.ListN.{length}
use Rattle.std.specs.Prelude.{is_some}
use Rattle.table_limits.specs.Lengths.{slots_for}
use Rattle.table_limits.proofs.Lengths.{slots_none, slots_some, slots_sized}
use Rattle.table_judge.proofs.Decides.{decided_with, no_slots, verdict_tells}
use Rattle.table_judge.proofs.judge.Goals as goal

pub returns-in_default : goal.returns-in_default
returns-in_default c = no_slots c.args.table.now (slots_none _ (sym c.slots_for.ensures ∙ c.in_default.is))

pub decide-requires : goal.decide-requires
decide-requires c =
    let right = slots_sized (length c.args.table.now) c.in-Some.many (sym c.slots_for.ensures ∙ c.in-Some.is) in
    (right.some, right.within, right.long)

pub returns : goal.returns
returns c =
    let words = c.args.table.now in
    let (same, some) = slots_some (slots_for (length words)) c.in-Some.many (sym c.slots_for.ensures ∙ c.in-Some.is) in
    c.is_some.ensures
    ∙ ap is_some c.decide.ensures
    ∙ verdict_tells words c.in-Some.many
    ∙ sym (decided_with words c.in-Some.many same (λ e. omega (arith, some)))
