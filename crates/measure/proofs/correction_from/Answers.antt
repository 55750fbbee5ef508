-- `measure::correction_from` meets its contract. Assumes nothing.
use Rattle.std.proofs.Common.{rules, eq-eqb, ne_eqb, ◌∙◌, w64}
use mir.ValLaws.{to_z-of_z}
use Rattle.measure.specs.Measure.{measure_from}
use Rattle.measure.proofs.correction_from.Goals as goal

pub returns-then-length-eq0 : goal.returns-then-length-eq0
unfolding measure_from
returns-then-length-eq0 c = rw (eq-eqb c.args.length 0 c.if-length-eq0.true)

pub returns : goal.returns
unfolding measure_from
returns c =
    rw (ne_eqb c.args.length 0 c.if-length-eq0.false)
    (to_z-of_z w64 c.gap.result (search rules) ∙ c.gap.ensures)
