-- `call_batch::look_up_batch` meets its contract. Assumes nothing.
use mathlib.Core.Logic.{◌≢◌}
use mathlib.Core.Path.{sym, ◌∙◌}
use native.Mathlib.Omega.{arith}
use lib.ListN.{length}
use Rattle.table_limits.specs.Lengths.{slots_for}
use Rattle.table_limits.proofs.Lengths.{slots_none, slots_some}
use Rattle.call_batch.proofs.Batching.{refused_length, refused_keys}
use Rattle.call_batch.proofs.look_up_batch.Goals as goal
use Rattle.call_batch.proofs.look_up_batch.Goals.{In-Some}

some : (p : In-Some) → slots_for (length p.args.table.now) ≢ 0
some p e = let told = slots_some _ _ (sym p.slots_for.ensures ∙ p.in-Some.is) in omega (arith, told.0, told.1, e)

pub returns-in_default : goal.returns-in_default
returns-in_default c = refused_length c.args.table.now c.args.questions.now (slots_none _ (sym c.slots_for.ensures ∙ c.in_default.is))

pub returns-then-not-rising : goal.returns-then-not-rising
returns-then-not-rising c =
    refused_keys c.args.table.now c.args.questions.now (some (goal.at.returns-then-not-rising c).In-Some) (sym c.rising.ensures ∙ c.if-not-rising.true)

pub answer-requires : goal.answer-requires
answer-requires c =
    let told = slots_some _ _ (sym c.slots_for.ensures ∙ c.in-Some.is) in
    (sym told.0, told.1, sym c.rising.ensures ∙ c.if-not-rising.false)
