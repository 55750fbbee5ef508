-- `image_equal::same_bytes` meets its contract. The loop's invariant: the differences so far are gathered. Assumes nothing.
use native.Mathlib.Omega.{arith}
use Rattle.image_equal.proofs.SameBytes.{lengths_differ, gathered_next, gathered_all}
use Rattle.image_equal.proofs.same_bytes.Goals as goal

pub returns-then-left-right : goal.returns-then-left-right
returns-then-left-right c = let args = c.args in lengths_differ args.left.now args.right.now c.if-left-right.true

pub loop-i-preserved : goal.loop-i-preserved
loop-i-preserved c =
    let args = c.args in
    gathered_next args.left.now args.right.now c.if-left-right.false c.loop-i.gathered c.loop-i.i c.loop-i.invariant c.loop-i-test.true

pub returns : goal.returns
returns c =
    let args = c.args in
    gathered_all args.left.now args.right.now c.if-left-right.false c.loop-i.gathered c.loop-i.i c.loop-i.invariant (omega (arith, c.loop-i-test.false))
