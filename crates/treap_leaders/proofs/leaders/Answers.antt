-- `treap_leaders::leaders` meets its contract. The loop's invariant: the column has the leaders of the root and of the
-- children of the positions of the entries passed, and is as it was from `n` on. Assumes nothing.
use mathlib.Core.Path.{sym, subst}
use Prim.Native.Nat.{◌≤◌, ◌<◌}
use native.Mathlib.Omega.{arith}
use lib.ListN.{length, take, get_or, length-set}
use lib.Seq.{length-take-le}
use Rattle.treap_columns.specs.Columns.{most_positions, Ready}
use Rattle.treap_columns.proofs.Filled.{Kept, kept_none, kept_store, kept_again}
use Rattle.treap_columns.proofs.Reading.{Turn, turn_at, index_low}
use Rattle.treap_leaders.proofs.LeaderTurn.{ready_taken, handed_kept, led_at_first, led_next, led_at_last}
use Rattle.treap_leaders.proofs.leaders.Goals as goal
use Rattle.treap_leaders.proofs.leaders.Goals.{Start, After-hand_down, Else-n-eq0, At-loop-entry, In-loop-entry}

-- the root's index is in range
first_low : (c : Else-n-eq0)
    → let args = c.args in
    let n = length args.weights.now in
    (get_or args.order.now 0 0 < n) × (n ≤ most_positions) × (n ≤ length args.leader.now)
first_low c =
    let pre = c.requires in
    let some = c.if-n-eq0.false in
    let ready = pre.ready in
    let low = index_low _ _ _ _ _ _ ready 0 (omega arith) in
    (low, omega arith, omega arith)

-- the entries that are passed are those of the order's first n
passed : (c : Start) → let args = c.args in Ready args.weights.now args.alpha args.n (take args.n args.order.now) args.left.now args.right.now
passed c = ready_taken _ _ _ _ _ _ c.requires.ready

-- what is known in a turn
in_turn : (c : In-loop-entry)
    → let args = c.args in
    Turn args.weights.now args.alpha args.n (take args.n args.order.now) args.left.now args.right.now c.loop-entry.entry-index
in_turn c =
    let ready = passed (goal.at.In-loop-entry c).Start in
    turn_at _ _ _ _ _ _ ready _ (omega (arith, c.loop-entry-test.true, length-take-le c.args.n c.args.order.now c.requires.ready.order_room))

room : (c : At-loop-entry)
    → let args = c.args in
    (args.n ≤ length args.rank.now) × (args.n ≤ length c.loop-entry.leader)
room c =
    let pre = c.requires.n_in_bounds in
    let long = simp length-set at c.loop-entry.invariant.0.long in
    (pre.0, omega arith)

handed_once : (c : After-hand_down)
    → Kept (length c.args.weights.now) c.loop-entry.leader c.hand_down.new.leader
handed_once c =
    let t = in_turn (goal.at.After-hand_down c).In-loop-entry in
    subst (Kept _ _) (sym c.hand_down.ensures) (handed_kept _ _ _ _ _ _ t.left_low (kept_none _ _))

pub loop-entry-init : goal.loop-entry-init
loop-entry-init c =
    let pre = c.requires in
    (kept_none _ _, led_at_first _ _ _ _ _ _ pre.ready c.args.leader.now c.if-n-eq0.false pre.n_in_bounds.1)

pub bounds-left-parent : goal.bounds-left-parent
bounds-left-parent c = let t = in_turn (goal.at.bounds-left-parent c).In-loop-entry in omega arith

pub hand_down-requires : goal.hand_down-requires
hand_down-requires c =
    let t = in_turn (goal.at.hand_down-requires c).In-loop-entry in
    let r = room (goal.at.hand_down-requires c).At-loop-entry in
    record { parent_in_bounds = omega arith; child_in_bounds = omega arith }

pub bounds-right-parent : goal.bounds-right-parent
bounds-right-parent c = let t = in_turn (goal.at.bounds-right-parent c).In-loop-entry in omega arith

pub hand_down-requires-in-loop-entry : goal.hand_down-requires-in-loop-entry
hand_down-requires-in-loop-entry c =
    let t = in_turn (goal.at.hand_down-requires-in-loop-entry c).In-loop-entry in
    let r = room (goal.at.hand_down-requires-in-loop-entry c).At-loop-entry in
    let k = handed_once (goal.at.hand_down-requires-in-loop-entry c).After-hand_down in
    record { parent_in_bounds = omega arith; child_in_bounds = omega arith }

pub loop-entry-preserved : goal.loop-entry-preserved
loop-entry-preserved c =
    let pre = c.requires in
    let inv = c.loop-entry.invariant in
    let t = in_turn (goal.at.loop-entry-preserved c).In-loop-entry in
    let enough = (room (goal.at.loop-entry-preserved c).At-loop-entry).1 in
    let once = handed_once (goal.at.loop-entry-preserved c).After-hand_down in
    let long = once.long in
    let first = c.hand_down.ensures in
    let second = c.hand_down-in-loop-entry.ensures in
    let twice = subst (Kept _ _) (sym second) (handed_kept _ _ _ _ _ _ t.right_low once) in (
      kept_again _ _ _ _ inv.0 twice,
      led_next _ _ _ _ _ _ (passed (goal.at.loop-entry-preserved c).Start) _ _ _ _ _ t pre.rank_value enough (omega arith) first second inv.1,
    )

pub returns : goal.returns
returns c =
    let pre = c.requires in
    let inv = c.loop-entry.invariant in
    let first = kept_store _ _ _ _ _ (first_low (goal.at.returns c).Else-n-eq0).0 (kept_none _ _) in
    let last : c.args.n ≤ c.loop-entry.entry-index = omega (arith, c.loop-entry-test.false, length-take-le c.args.n c.args.order.now pre.ready.order_room) in
    led_at_last _ _ _ _ _ _ (passed (goal.at.returns c).Start) _ _ _ last pre.n_in_bounds.1 (kept_again _ _ _ _ first inv.0) inv.1
