-- `treap_links::grow` meets its contract. The loop's invariant is `Grown`: with the part from a up to b still to be written,
-- the columns become the final ones. The measure of the calls is the length of the part. Assumes nothing.
use Prim.Native.Nat.{ℕ, ◌<◌, ◌≤◌, ◌-◌}
use native.Mathlib.Omega.{arith}
use lib.ListN.{length-set}
use Rattle.treap_links.proofs.Growth.{root_index, turned_left, turned_right, grown_end}
use Rattle.treap_links.proofs.Segments.{top_upto}
use Rattle.treap_links.proofs.Untouched.{set_after, set_before, nearest_kept, nearest_part}
use Rattle.treap_links.proofs.+grow.Goals as goal
use Rattle.treap_links.proofs.+grow.Goals.{In-loop-a}

inside : (t : ℕ) (c : In-loop-a t) → (c.loop-a.a < c.loop-a.at) × (c.loop-a.at ≤ c.loop-a.b)
inside t c = root_index _ _ _ _ _ c.loop-a.invariant c.loop-a-test.true

pub overflow_sub-i : goal.overflow_sub-i
overflow_sub-i t c = let h = inside t c in omega arith

pub root_of-l-requires-clause-hi_in_bounds : goal.root_of-l-requires-clause-hi_in_bounds
root_of-l-requires-clause-hi_in_bounds t c =
    let h = inside t (goal.at.root_of-l-requires-clause-hi_in_bounds t c).In-loop-a in
    let turn = c.loop-a in (omega arith, omega arith, omega arith)

pub root_of-l-requires-clause-nearest : goal.root_of-l-requires-clause-nearest
root_of-l-requires-clause-nearest t c =
    let h = inside t (goal.at.root_of-l-requires-clause-nearest t c).In-loop-a in
    let turn = c.loop-a in nearest_part _ _ _ _ _ _ turn.invariant.near turn.a (turn.at - 1) (omega arith) (omega arith)

pub root_of-r-requires-clause-nearest : goal.root_of-r-requires-clause-nearest
root_of-r-requires-clause-nearest t c =
    let h = inside t (goal.at.root_of-r-requires-clause-nearest t c).In-loop-a in
    let turn = c.loop-a in nearest_part _ _ _ _ _ _ turn.invariant.near turn.at turn.b (omega arith) (omega arith)

pub overflow_cast-left : goal.overflow_cast-left
overflow_cast-left t c =
    let h = inside t (goal.at.overflow_cast-left t c).In-loop-a in
    let turn = c.loop-a in
    omega (arith, top_upto _ turn.a (turn.at - 1) _ c.root_of-l.ensures)

pub offset_bounds-left-i : goal.offset_bounds-left-i
offset_bounds-left-i t c = let h = inside t (goal.at.offset_bounds-left-i t c).In-loop-a in omega arith

pub bounds-left-i : goal.bounds-left-i
bounds-left-i t c = let h = inside t (goal.at.bounds-left-i t c).In-loop-a in omega arith

pub overflow_cast-right : goal.overflow_cast-right
overflow_cast-right t c =
    let h = inside t (goal.at.overflow_cast-right t c).In-loop-a in
    let turn = c.loop-a in
    omega (arith, top_upto _ turn.at turn.b _ c.root_of-r.ensures)

pub offset_bounds-right-i : goal.offset_bounds-right-i
offset_bounds-right-i t c = let h = inside t (goal.at.offset_bounds-right-i t c).In-loop-a in omega arith

pub bounds-right-i : goal.bounds-right-i
bounds-right-i t c = let h = inside t (goal.at.bounds-right-i t c).In-loop-a in omega arith

pub overflow_sub-i-in-loop-a : goal.overflow_sub-i-in-loop-a
overflow_sub-i-in-loop-a t c = let h = inside t (goal.at.overflow_sub-i-in-loop-a t c).In-loop-a in omega arith

pub overflow_sub-b : goal.overflow_sub-b
overflow_sub-b t c = let h = inside t (goal.at.overflow_sub-b t c).In-loop-a in omega arith

pub grow-requires : goal.grow-requires
grow-requires t c =
    let h = inside t (goal.at.grow-requires t c).In-loop-a in
    let long = c.requires in
    let turn = c.loop-a in
    (omega arith, ((omega arith, omega arith, omega arith), ((simp length-set (omega arith), simp length-set (omega arith)), (c.root_of-l.ensures, nearest_kept _ _ _ _ _ _ turn.invariant.near turn.a (turn.at - 1) (omega arith) (omega arith) _ _ (set_after turn.left (turn.at - 1) _ _ _ (omega arith)) (set_after turn.right (turn.at - 1) _ _ _ (omega arith))))))

pub loop-a-smaller-then-i-a : goal.loop-a-smaller-then-i-a
loop-a-smaller-then-i-a t c =
    let h = inside t (goal.at.loop-a-smaller-then-i-a t c).In-loop-a in omega arith

pub loop-a-preserved-then-i-a : goal.loop-a-preserved-then-i-a
loop-a-preserved-then-i-a t c =
    let turn = c.loop-a in
    turned_left _ _ _ _ _ _ _ _ _ c.requires.hi_in_bounds.0 c.requires.hi_in_bounds.1 _ _ _ _ turn.at turn.invariant c.loop-a-test.true
    c.root_of-l.ensures c.root_of-r.ensures c.grow.ensures.left_after c.grow.ensures.right_after

pub grow-requires-else-i-a : goal.grow-requires-else-i-a
grow-requires-else-i-a t c =
    let h = inside t (goal.at.grow-requires-else-i-a t c).In-loop-a in
    let long = c.requires in
    let turn = c.loop-a in
    (omega arith, ((omega arith, omega arith, omega arith), ((simp length-set (omega arith), simp length-set (omega arith)), (c.root_of-r.ensures, nearest_kept _ _ _ _ _ _ turn.invariant.near turn.at turn.b (omega arith) (omega arith) _ _ (set_before turn.left (turn.at - 1) _ _ _ (omega arith)) (set_before turn.right (turn.at - 1) _ _ _ (omega arith))))))

pub loop-a-smaller : goal.loop-a-smaller
loop-a-smaller t c =
    let h = inside t (goal.at.loop-a-smaller t c).In-loop-a in omega arith

pub loop-a-preserved : goal.loop-a-preserved
loop-a-preserved t c =
    let turn = c.loop-a in
    turned_right _ _ _ _ _ _ _ _ _ c.requires.hi_in_bounds.0 c.requires.hi_in_bounds.1 _ _ _ _ turn.at turn.invariant c.loop-a-test.true
    c.root_of-l.ensures c.root_of-r.ensures c.grow-else-i-a.ensures.left_after c.grow-else-i-a.ensures.right_after

pub returns : goal.returns
returns t c = let end = grown_end _ _ _ _ _ c.loop-a.invariant c.loop-a-test.false in record { left_after = end.0; right_after = end.1 }
