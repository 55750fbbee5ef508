-- `call_step::key_from` meets its contract. Assumes nothing.
use mathlib.Core.Bool.{true}
use mathlib.Core.Logic.{◌≢◌}
use mathlib.Core.Path.{◌≡◌, sym, subst, ◌∙◌}
use Prim.Native.Nat.{ℕ}
use native.Mathlib.Omega.{arith}
use lib.ListN.{length}
use Rattle.table.specs.Table.{contents_of}
use Rattle.table.specs.Contents.{keys_in}
use Rattle.table_limits.specs.Lengths.{slots_for}
use Rattle.table_limits.proofs.Lengths.{slots_none, slots_some, slots_sized}
use Rattle.table_judge.specs.Judge.{is_sound}
use Rattle.table_least.specs.LeastKey.{least_within, IsOrZero}
use Rattle.call_step.proofs.Moving.{refused_length, refused_table, was_done, answered}
use Rattle.call_step.proofs.key_from.Goals as goal
use Rattle.call_step.proofs.key_from.Goals.{After-least_within-key, Else-not-judge, In-Some}

-- a table of a right length
some_slots : (p : In-Some) → slots_for (length p.args.table.now) ≢ 0
some_slots p e = let told = slots_some _ _ (sym p.slots_for.ensures ∙ p.in-Some.is) in omega (arith, told.0, told.1, e)

-- a table that is sound
passed : (p : Else-not-judge) → is_sound p.args.table.now ≡ true
passed p = sym p.judge.ensures ∙ p.if-not-judge.false

-- what was found
found : (p : After-least_within-key)
    → IsOrZero p.least_within-key.result (least_within p.args.place.next p.args.place.high (keys_in (contents_of (slots_for (length p.args.table.now)) p.args.table.now)))
found p =
    let place = p.args.place in
    let many = (slots_some _ _ (sym p.slots_for.ensures ∙ p.in-Some.is)).0 in
    subst (λ (n : ℕ). IsOrZero p.least_within-key.result (least_within place.next place.high (keys_in (contents_of n p.args.table.now)))) (sym many)
    p.least_within-key.ensures

pub returns-in_default : goal.returns-in_default
returns-in_default c =
    let place = c.args.place in
    refused_length c.args.table.now place.next place.high place.done (slots_none _ (sym c.slots_for.ensures ∙ c.in_default.is))

pub returns-then-not-judge : goal.returns-then-not-judge
returns-then-not-judge c =
    let place = c.args.place in
    refused_table c.args.table.now place.next place.high place.done (some_slots (goal.at.returns-then-not-judge c).In-Some)
    (sym c.judge.ensures ∙ c.if-not-judge.true)

pub returns-then-place : goal.returns-then-place
returns-then-place c =
    let place = c.args.place in
    let at = goal.at.returns-then-place c in
    was_done c.args.table.now place.next place.high place.done (some_slots at.In-Some) (passed at.Else-not-judge) c.if-place.true

pub least_within-key-requires : goal.least_within-key-requires
least_within-key-requires c =
    let sized = slots_sized _ _ (sym c.slots_for.ensures ∙ c.in-Some.is) in
    omega (arith, sized.long)

pub returns : goal.returns
returns c =
    let place = c.args.place in
    let at = goal.at.returns c in
    answered c.args.table.now place.next place.high place.done (some_slots at.In-Some) (passed at.Else-not-judge) c.if-place.false
    c.least_within-key.result (found c)
