-- `measure::is_measure` meets its contract. Assumes nothing.
use Rattle.std.proofs.Common.{pos, sym, ap₂, ◌&&◌, ◌∙◌, eq-eqb, ne_eqb, w32}
use mir.ValLaws.{to_z-of_z}
use Rattle.measure.specs.Measure.{least_correction, greatest_correction, lies_z, is_measure}
use Rattle.measure.proofs.Integers.{is_le_le_z, equals_zero}
use Rattle.measure.proofs.is_measure.Goals as goal

pub returns-then-length-eq0 : goal.returns-then-length-eq0
unfolding is_measure
returns-then-length-eq0 c = rw (eq-eqb c.args.length 0 c.if-length-eq0.true) (equals_zero c.args.correction c.ranges.correction)

pub returns-then-is_within : goal.returns-then-is_within
unfolding is_measure lies_z
returns-then-is_within c =
    let range = c.new.ensures in
    rw (ne_eqb c.args.length 0 c.if-length-eq0.false, sym c.is_within.ensures ∙ c.if-is_within.true)
    (c.contains.ensures.value
    ∙ rw (range.start, range.end, range.exhausted, to_z-of_z w32 c.args.correction c.ranges.correction)
    (ap₂ ◌&&◌ (is_le_le_z least_correction c.args.correction) (is_le_le_z c.args.correction (pos greatest_correction))))

pub returns-else-is_within : goal.returns-else-is_within
unfolding is_measure
returns-else-is_within c =
    rw (ne_eqb c.args.length 0 c.if-length-eq0.false, c.if-is_within.false, sym c.is_within.ensures ∙ c.if-is_within.false)
