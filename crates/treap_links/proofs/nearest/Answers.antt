-- `treap_links::nearest` meets its contract. The loop's invariant is `Passing`. Assumes nothing.
use borrow.Author.Rules.{rules}
use Rattle.treap_links.proofs.Passing.{passing_start, passing_turn}
use Rattle.treap_links.proofs.nearest.Goals as goal

pub loop-i-init : goal.loop-i-init
loop-i-init c = passing_start _ _ _ c.requires.0 c.requires.1

pub loop-i-preserved : goal.loop-i-preserved
loop-i-preserved c =
    let turn = c.loop-i in
    let call = c.overtake-b.ensures in
    passing_turn _ _ _ c.requires.0 c.requires.1 turn.left turn.right turn.i turn.invariant c.loop-i-test.true _ _ call.nearest_before call.nearest_with_i (search rules) call.right_unchanged
