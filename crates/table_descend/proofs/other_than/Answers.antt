-- `table_descend::other_than` meets its contract. Assumes nothing.
use borrow.Author.Tests.{eq-eqb, ne_eqb}
use Rattle.table_descend.specs.Entering.{other_than}
use Rattle.table_descend.proofs.other_than.Goals as goal

pub returns-then-last-at : goal.returns-then-last-at
unfolding other_than
returns-then-last-at c = rw (eq-eqb _ _ c.if-last-at.true)

pub returns : goal.returns
unfolding other_than
returns c = rw (ne_eqb _ _ c.if-last-at.false)
