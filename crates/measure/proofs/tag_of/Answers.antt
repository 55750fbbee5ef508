-- `measure::tag_of` meets its contract. Assumes nothing.
use Rattle.std.proofs.Common.{◌≡◌, sym, ap, ◌∙◌, pos, nat_abs, ◌+ℤ◌, ne_eqb, w32}
use lib.IntN.{ℤ, +ℤ_comm}
use mir.Val.{to_z, of_z}
use mir.ValLaws.{to_z-of_z}
use Rattle.measure.specs.Measure.{Measure, least_correction, greatest_correction, lies_z, stored_correction}
use Rattle.measure.specs.Tag.{is_stored, tag_from, tag_of}
use Rattle.measure.proofs.Stored.{measured, stored_raised, measure_stored, length_zero}
use Rattle.measure.proofs.Tags.{unmeasured_tag}
use Rattle.measure.proofs.tag_of.Goals as goal
use Rattle.measure.proofs.tag_of.Goals.{Start, Else-length-eq0, After-plus}

abbrev measure : Start → Measure
measure c = record { length = c.args.length; correction = c.args.correction }

same : (c : Start) → to_z w32 (of_z w32 c.args.correction) ≡ c.args.correction
same c = to_z-of_z w32 c.args.correction c.ranges.correction

stored : (c : After-plus) → c.plus.result ≡ stored_correction (record { length = c.args.length; correction = c.args.correction })
stored c =
    ap nat_abs (c.plus.ensures ∙ ap (λ (z : ℤ). pos greatest_correction +ℤ z) (to_z-of_z w32 c.args.correction c.ranges.correction) ∙ +ℤ_comm (pos greatest_correction) c.args.correction)
    ∙ sym (stored_raised (record { length = c.args.length; correction = c.args.correction }) (ne_eqb c.args.length 0 c.if-length-eq0.false))

pub returns-then-length-eq0 : goal.returns-then-length-eq0
returns-then-length-eq0 c =
    sym (ap tag_of (length_zero (record { length = c.args.length; correction = c.args.correction }) c.requires c.if-length-eq0.true) ∙ unmeasured_tag)

pub plus-requires-clause-correction_bounds : goal.plus-requires-clause-correction_bounds
plus-requires-clause-correction_bounds c =
    ap (lies_z least_correction (pos greatest_correction)) (to_z-of_z w32 c.args.correction c.ranges.correction)
    ∙ (measured (record { length = c.args.length; correction = c.args.correction }) (ne_eqb c.args.length 0 c.if-length-eq0.false) c.requires).1

pub tag_from-requires : goal.tag_from-requires
tag_from-requires c =
    ap (is_stored c.args.length) (stored (goal.at.tag_from-requires c).After-plus)
    ∙ measure_stored (record { length = c.args.length; correction = c.args.correction }) c.requires

pub returns : goal.returns
unfolding tag_of
returns c = c.tag_from.ensures ∙ ap (tag_from c.args.length) (stored (goal.at.returns c).After-plus)
