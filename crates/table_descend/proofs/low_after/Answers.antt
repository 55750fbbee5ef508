-- `table_descend::low_after` meets its contract. Assumes nothing.
use borrow.Author.Tests.{lt-ltb, le-ltb}
use Rattle.table_descend.specs.Entering.{low_after}
use Rattle.table_descend.proofs.low_after.Goals as goal

pub returns-then-at-key : goal.returns-then-at-key
unfolding low_after
returns-then-at-key c = rw (lt-ltb _ _ c.if-at-key.true)

pub returns : goal.returns
unfolding low_after
returns c = rw (le-ltb _ _ c.if-at-key.false)
