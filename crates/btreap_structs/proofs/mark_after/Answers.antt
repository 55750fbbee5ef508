-- `btreap_structs::mark_after` meets its contract. Assumes nothing.
use Rattle.btreap_structs.proofs.Marks.{mark_going, mark_kept, mark_set}
use Rattle.btreap_structs.proofs.mark_after.Goals as goal

pub returns-then-not-done : goal.returns-then-not-done
returns-then-not-done c = mark_going _ _ (c.if-not-done.true)

pub returns-then-before-ne0 : goal.returns-then-before-ne0
returns-then-before-ne0 c = mark_kept _ _ (c.if-not-done.false) c.if-before-ne0.true

pub returns : goal.returns
returns c = mark_set _ _ (c.if-not-done.false) c.if-before-ne0.false
