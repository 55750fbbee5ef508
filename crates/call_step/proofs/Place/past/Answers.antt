-- `call_step::Place::past` meets its contract. Assumes nothing.
use borrow.Author.Tests.{eq-eqb, ne_eqb}
use Rattle.call_step.specs.Steps.{greatest_key, passed}
use Rattle.call_step.proofs.Place.past.Goals as goal

pub returns-then-key-eq-GREATEST_KEY : goal.returns-then-key-eq-GREATEST_KEY
unfolding passed
returns-then-key-eq-GREATEST_KEY c = rw (eq-eqb c.args.key greatest_key c.if-key-eq-GREATEST_KEY.true)

pub returns : goal.returns
unfolding passed
returns c = rw (ne_eqb c.args.key greatest_key c.if-key-eq-GREATEST_KEY.false)
