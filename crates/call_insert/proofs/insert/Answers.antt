-- `call_insert::insert` meets its contract. Assumes nothing.
use mathlib.Core.Bool.{true}
use mathlib.Core.Path.{◌≡◌, sym, ap, ◌∙◌, subst}
use Prim.Native.Nat.{ℕ}
use native.Mathlib.Omega.{arith}
use lib.ListN.{length}
use mir.Syntax.{w32}
use mir.Val.{to_z, of_z}
use Rattle.measure.specs.Measure.{Measure, is_measure}
use Rattle.measure.specs.Tag.{tag_of, measure_at, is_tag}
use Rattle.measure.proofs.Corrections.{handed_on}
use Rattle.measure.proofs.Tags.{measure_of_tag, measure_tags}
use Rattle.table_limits.proofs.Lengths.{slots_sized}
use Rattle.call_meaning.specs.Calls.{insert_reply, insert_after}
use Rattle.call_insert.proofs.Inserting.{refused_length, refused_zero, refused_measure}
use Rattle.call_insert.proofs.insert.Goals as goal
use Rattle.call_insert.proofs.insert.Goals.{After-tag_of-tag, Else-not-is_measure, Start}

-- The measure that was handed in; as a number of 32 bits it is the same.
abbrev measure : Start → Measure
measure p = record { length = p.args.length; correction = p.args.correction }

same : (p : Start) → record { length = p.args.length; correction = to_z w32 (of_z w32 p.args.correction) } ≡ measure p
same p = handed_on p.args.length p.args.correction p.ranges.correction

-- past the tests it is within the rules
is_right : (p : Else-not-is_measure) → is_measure (measure (goal.at.Else-not-is_measure p).Start) ≡ true
is_right p =
    let tested = p.is_measure in
    ap is_measure (sym (same (goal.at.Else-not-is_measure p).Start)) ∙ sym tested.ensures ∙ p.if-not-is_measure.false

-- and the tag is its own
tagged : (p : After-tag_of-tag) → measure_at p.tag_of-tag.result ≡ measure (goal.at.After-tag_of-tag p).Start
tagged p =
    ap measure_at (p.tag_of-tag.ensures ∙ ap tag_of (same (goal.at.After-tag_of-tag p).Start)) ∙ measure_of_tag (measure (goal.at.After-tag_of-tag p).Start) (is_right (goal.at.After-tag_of-tag p).Else-not-is_measure)

pub returns-in_default : goal.returns-in_default
returns-in_default c =
    let met = refused_length c.args.table.now c.args.key (measure (goal.at.returns-in_default c).Start) (sym c.slots_for.ensures ∙ c.in_default.is) in
    record { result_value = met.0; table_after = met.1 }

pub returns-then-key-eq0 : goal.returns-then-key-eq0
returns-then-key-eq0 c =
    let met =
    refused_zero c.args.table.now c.args.key (measure (goal.at.returns-then-key-eq0 c).Start) _ (sym c.slots_for.ensures ∙ c.in-Some.is) c.if-key-eq0.true
    in
    record { result_value = met.0; table_after = met.1 }

pub returns-then-not-is_measure : goal.returns-then-not-is_measure
returns-then-not-is_measure c =
    let start = (goal.at.returns-then-not-is_measure c).Start in
    let wrong = ap is_measure (sym (same start)) ∙ sym c.is_measure.ensures ∙ c.if-not-is_measure.true in
    let met = refused_measure c.args.table.now c.args.key (measure start) _ (sym c.slots_for.ensures ∙ c.in-Some.is) c.if-key-eq0.false wrong in
    record { result_value = met.0; table_after = met.1 }

pub insert_with_room-requires : goal.insert_with_room-requires
insert_with_room-requires c =
    let at = goal.at.insert_with_room-requires c in
    let right = slots_sized (length c.args.table.now) _ (sym c.slots_for.ensures ∙ c.in-Some.is) in
    let positive = c.if-key-eq0.false in (
      omega (arith, right.some),
      right.within,
      right.long,
      omega arith,
      subst (λ (t : ℕ). is_tag t ≡ true) (sym (c.tag_of-tag.ensures ∙ ap tag_of (same at.Start))) (measure_tags (measure at.Start) (is_right at.Else-not-is_measure)),
    )

pub returns : goal.returns
returns c =
    let its_own = tagged (goal.at.returns c).After-tag_of-tag in
    record {
      result_value = c.insert_with_room.ensures.result_value ∙ ap (insert_reply c.args.table.now c.args.key) its_own;
      table_after = c.insert_with_room.ensures.table_after ∙ ap (insert_after c.args.table.now c.args.key) its_own;
    }
