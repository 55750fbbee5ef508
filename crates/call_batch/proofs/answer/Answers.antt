-- `call_batch::answer` meets its contract. Assumes nothing.
use mathlib.Core.Bool.{true}
use mathlib.Core.Logic.{◌≢◌}
use mathlib.Core.Path.{◌≡◌, sym, ◌∙◌}
use native.Mathlib.Omega.{arith}
use lib.ListN.{length}
use Rattle.table_limits.specs.Lengths.{slots_for}
use Rattle.table_judge.specs.Judge.{is_sound}
use Rattle.call_batch.proofs.Batching.{refused_table, may_fill, accepted}
use Rattle.call_batch.proofs.answer.Goals as goal
use Rattle.call_batch.proofs.answer.Goals.{Else-not-judge, Start}

some : (p : Start) → slots_for (length p.args.table.now) ≢ 0
some p e = omega (arith, p.requires.0, p.requires.1, e)

-- past the test the table is sound
passed : (p : Else-not-judge) → is_sound p.args.table.now ≡ true
passed p = sym p.judge.ensures ∙ p.if-not-judge.false

pub returns-then-not-judge : goal.returns-then-not-judge
returns-then-not-judge c =
    let at = goal.at.returns-then-not-judge c in
    refused_table c.args.table.now c.args.questions.now (some at.Start) c.requires.2 (sym c.judge.ensures ∙ c.if-not-judge.true)

pub fill-requires : goal.fill-requires
fill-requires c =
    let at = goal.at.fill-requires c in
    (passed at.Else-not-judge, c.requires.0, may_fill c.args.table.now c.args.questions.now (some at.Start) c.requires.2 (passed at.Else-not-judge))

pub returns : goal.returns
returns c =
    let at = goal.at.returns c in
    accepted c.args.table.now c.args.questions.now (some at.Start) c.requires.2 (passed at.Else-not-judge)
    c.fill.result c.fill.ensures.blocks_value c.fill.new.questions c.fill.ensures.questions_after
