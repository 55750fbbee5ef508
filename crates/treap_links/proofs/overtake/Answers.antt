-- `treap_links::overtake` meets its contract. The loop's invariant is `Overtaking`. Assumes nothing.
use borrow.Author.Tests.{lt-ltb, le-ltb}
use native.Mathlib.Omega.{arith}
use Rattle.treap_links.proofs.Overtaking.{overtaking_start, overtaking_turn, lower_before, overtaking_end}
use Rattle.treap_links.proofs.overtake.Goals as goal

pub loop-b-init : goal.loop-b-init
loop-b-init c = overtaking_start _ _ _ _ c.requires.i_in_bounds.0 c.requires.i_in_bounds.2 c.requires.nearest

pub loop-b-smaller : goal.loop-b-smaller
loop-b-smaller c =
    let turn = c.loop-b in
    let low = (lower_before _ _ _ _ c.requires.i_in_bounds.0 c.requires.i_in_bounds.2 c.requires.nearest _ _ turn.invariant c.loop-b-test.true (lt-ltb _ _ c.if-weights-b.true)).back in
    omega arith

pub loop-b-preserved : goal.loop-b-preserved
loop-b-preserved c =
    let turn = c.loop-b in
    overtaking_turn _ _ _ _ c.requires.i_in_bounds.0 c.requires.i_in_bounds.2 c.requires.nearest _ _ turn.invariant c.loop-b-test.true (lt-ltb _ _ c.if-weights-b.true)

pub returns-else-weights-b : goal.returns-else-weights-b
returns-else-weights-b c =
    let end = overtaking_end _ _ _ _ c.requires.i_in_bounds.0 c.requires.i_in_bounds.2 c.requires.nearest _ _ c.loop-b.invariant (λ some. le-ltb _ _ c.if-weights-b.false) in
    record { nearest_before = end.0; nearest_with_i = end.1.0; right_unchanged = end.1.1 }

pub returns-after-loop-b : goal.returns-after-loop-b
returns-after-loop-b c =
    let end = overtaking_end _ _ _ _ c.requires.i_in_bounds.0 c.requires.i_in_bounds.2 c.requires.nearest _ _ c.loop-b.invariant (λ some. absurd (omega arith)) in
    record { nearest_before = end.0; nearest_with_i = end.1.0; right_unchanged = end.1.1 }
