-- `table_descend::first_block` meets its contract. Assumes nothing.
use borrow.Author.Tests.{eq-eqb, ne_eqb}
use Rattle.table_descend.specs.Entering.{first_block}
use Rattle.table_descend.proofs.first_block.Goals as goal

pub returns-then-last-eq0 : goal.returns-then-last-eq0
unfolding first_block
returns-then-last-eq0 c = rw (eq-eqb _ _ c.if-last-eq0.true)

pub returns : goal.returns
unfolding first_block
returns c = rw (ne_eqb _ _ c.if-last-eq0.false)
