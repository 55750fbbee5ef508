-- `measure::is_stored` meets its contract. Assumes nothing.
use Rattle.std.proofs.Common.{sym, ◌∙◌, eq-eqb, ne_eqb}
use Rattle.measure.specs.Tag.{is_stored}
use Rattle.measure.proofs.is_stored.Goals as goal

pub returns-then-length-eq0 : goal.returns-then-length-eq0
unfolding is_stored
returns-then-length-eq0 c = rw (eq-eqb c.args.length 0 c.if-length-eq0.true)

pub returns-then-is_within : goal.returns-then-is_within
unfolding is_stored
returns-then-is_within c = rw (ne_eqb c.args.length 0 c.if-length-eq0.false, sym c.is_within.ensures ∙ c.if-is_within.true)

pub returns-else-is_within : goal.returns-else-is_within
unfolding is_stored
returns-else-is_within c =
    rw (ne_eqb c.args.length 0 c.if-length-eq0.false, c.if-is_within.false, sym c.is_within.ensures ∙ c.if-is_within.false)
