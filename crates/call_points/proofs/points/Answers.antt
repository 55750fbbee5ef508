-- `call_points::points` meets its contract. Assumes nothing.
use mathlib.Core.Bool.{true}
use mathlib.Core.Path.{◌≡◌, sym, ap, ◌∙◌}
use borrow.Author.Rules.{rules}
use mir.Syntax.{w32, w64}
use mir.Val.{to_z, of_z}
use mir.ValLaws.{to_z-of_z}
use Rattle.measure.specs.Measure.{Measure, is_measure, lies_z}
use Rattle.measure.proofs.Corrections.{handed_on}
use Rattle.paris_points.specs.Points.{corrected, least_rest, greatest_rest}
use Rattle.call_points.proofs.Answering.{refused, not_measured, sized}
use Rattle.call_points.proofs.points.Goals as goal
use Rattle.call_points.proofs.points.Goals.{After-is_measure, Else-not-is_measure, Start}

-- The measure that was handed in; as a number of 32 bits it is the same.
abbrev measure : Start → Measure
measure p = record { length = p.args.length; correction = p.args.correction }

same : (p : Start) → record { length = p.args.length; correction = to_z w32 (of_z w32 p.args.correction) } ≡ measure p
same p = handed_on p.args.length p.args.correction p.ranges.correction

-- what the test says of it
tested : (c : After-is_measure) → is_measure (measure (goal.at.After-is_measure c).Start) ≡ c.is_measure.result
tested c = ap is_measure (sym (same (goal.at.After-is_measure c).Start)) ∙ sym c.is_measure.ensures

right : (c : Else-not-is_measure) → is_measure (measure (goal.at.Else-not-is_measure c).Start) ≡ true
right c = tested (goal.at.Else-not-is_measure c).After-is_measure ∙ c.if-not-is_measure.false

pub returns-then-not-is_measure : goal.returns-then-not-is_measure
returns-then-not-is_measure c =
    let at = goal.at.returns-then-not-is_measure c in
    refused (measure at.Start) (tested at.After-is_measure ∙ c.if-not-is_measure.true)

pub returns-then-length-eq0 : goal.returns-then-length-eq0
returns-then-length-eq0 c =
    let at = goal.at.returns-then-length-eq0 c in
    not_measured (measure at.Start) (right at.Else-not-is_measure) c.if-length-eq0.true

pub returns : goal.returns
returns c =
    let at = goal.at.returns c in
    let back : to_z w64 (of_z w64 c.rest-rest.result) ≡ c.rest-rest.result = to_z-of_z w64 c.rest-rest.result (search rules) in
    sized (measure at.Start) (right at.Else-not-is_measure) c.if-length-eq0.false
    c.corrected-t.result
    c.half_points-half_points.result
    (to_z w64 (of_z w64 c.rest-rest.result))
    (c.corrected-t.ensures.0 ∙ ap corrected (same at.Start))
    c.half_points-half_points.ensures
    (back ∙ c.rest-rest.ensures.0)
    (ap (lies_z least_rest greatest_rest) back ∙ c.rest-rest.ensures.1)
