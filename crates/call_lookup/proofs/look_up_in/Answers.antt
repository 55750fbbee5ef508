-- `call_lookup::look_up_in` meets its contract. Assumes nothing.
use mathlib.Core.Bool.{true}
use mathlib.Core.Logic.{◌≢◌}
use mathlib.Core.Path.{◌≡◌, sym, ◌∙◌}
use native.Mathlib.Omega.{arith}
use lib.ListN.{length}
use Rattle.table_limits.specs.Lengths.{slots_for}
use Rattle.table_limits.proofs.Lengths.{slots_for_some}
use Rattle.table_judge.specs.Judge.{is_sound}
use Rattle.table_judge.proofs.Decides.{decided_with}
use Rattle.call_lookup.proofs.LookingUp.{absent_is, refused_table, accepted}
use Rattle.call_lookup.proofs.look_up_in.Goals as goal
use Rattle.call_lookup.proofs.look_up_in.Goals.{Else-not-judge, Start}

some : (p : Start) → slots_for (length p.args.table.now) ≢ 0
some p e = omega (arith, p.requires.0, p.requires.1, e)

positive : (p : Start) → p.args.key ≢ 0
positive p e = omega (arith, p.requires.2, e)

-- past the test the table is sound
passed : (p : Else-not-judge) → is_sound p.args.table.now ≡ true
passed p = sym p.judge.ensures ∙ p.if-not-judge.false

pub returns-then-not-judge : goal.returns-then-not-judge
returns-then-not-judge c =
    let at = goal.at.returns-then-not-judge c in
    refused_table c.args.table.now c.args.key (some at.Start) (positive at.Start) (sym c.judge.ensures ∙ c.if-not-judge.true)

pub look_up-looked-requires : goal.look_up-looked-requires
look_up-looked-requires c =
    let at = goal.at.look_up-looked-requires c in
    let right = slots_for_some (length c.args.table.now) (some at.Start) in (
      c.requires.1,
      omega (arith, c.requires.0, right.within),
      omega (arith, c.requires.0, right.long),
      sym (decided_with c.args.table.now c.args.many (sym c.requires.0) (λ e. omega (arith, c.requires.1, e))) ∙ passed at.Else-not-judge,
    )

pub returns-in-Some : goal.returns-in-Some
returns-in-Some c =
    let at = goal.at.returns-in-Some c in
    accepted c.args.table.now c.args.key (some at.Start) (positive at.Start) (passed at.Else-not-judge) c.args.many c.requires.0
    c.look_up-looked.result c.look_up-looked.ensures

pub returns-in-None : goal.returns-in-None
returns-in-None c =
    let at = goal.at.returns-in-None c in
    accepted c.args.table.now c.args.key (some at.Start) (positive at.Start) (passed at.Else-not-judge) c.args.many c.requires.0
    _ (absent_is c.look_up-looked.result c.in-None.is ∙ c.look_up-looked.ensures)
