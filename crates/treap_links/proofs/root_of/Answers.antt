-- `treap_links::root_of` meets its contract. The loop's invariant is `Narrowed`. Assumes nothing.
use mathlib.Core.Path.{sym}
use native.Mathlib.Omega.{arith}
use Rattle.treap_columns.specs.Positions.{weight_at}
use Rattle.treap_links.proofs.Segments.{top_none}
use Rattle.treap_links.proofs.Narrowing.{first_after, last_before, first_is_root, last_is_root, ends_meet, narrowed_turn}
use Rattle.treap_links.proofs.root_of.Goals as goal

pub returns-then-hi-lo : goal.returns-then-hi-lo
returns-then-hi-lo c = sym (top_none (weight_at c.args.weights.now) c.args.lo c.args.hi c.if-hi-lo.true)

pub returns-then-hi-up : goal.returns-then-hi-up
returns-then-hi-up c =
    let turn = c.loop-a in
    first_is_root _ _ _ _ _ turn.invariant _ _ c.requires.hi_in_bounds.0 c.requires.nearest c.if-hi-up.true

pub returns-then-down-lo : goal.returns-then-down-lo
returns-then-down-lo c =
    let turn = c.loop-a in
    last_is_root _ _ _ _ _ turn.invariant _ _ c.requires.hi_in_bounds.0 c.requires.nearest c.if-down-lo.true

pub loop-a-smaller : goal.loop-a-smaller
loop-a-smaller c =
    let turn = c.loop-a in
    let up = (first_after _ _ _ _ _ turn.invariant _ _ c.requires.hi_in_bounds.0 c.requires.nearest).on in
    let down = (last_before _ _ _ _ _ turn.invariant _ _ c.requires.hi_in_bounds.0 c.requires.nearest).back in
    omega arith

pub loop-a-preserved : goal.loop-a-preserved
loop-a-preserved c =
    let turn = c.loop-a in
    narrowed_turn _ _ _ _ _ turn.invariant _ _ c.requires.hi_in_bounds.0 c.requires.nearest c.if-hi-up.false c.if-down-lo.false

pub returns : goal.returns
returns c =
    let turn = c.loop-a in
    ends_meet _ _ _ _ _ turn.invariant _ _ c.requires.hi_in_bounds.0 c.requires.nearest c.loop-a-test.false
