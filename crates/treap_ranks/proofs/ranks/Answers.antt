-- `treap_ranks::ranks` meets its contract. The loop's invariant: the columns have the standings of the positions from
-- place `j` of the order on, and are as they were from `n` on. Assumes nothing.
use mathlib.Core.Logic.{inl, inr}
use mathlib.Core.Path.{ap, ◌∙◌}
use Prim.Native.Nat.{◌-◌}
use native.Mathlib.Omega.{arith}
use Rattle.treap_ranks.specs.Steps.{standing_of, Small}
use Rattle.treap_columns.proofs.Filled.{kept_store}
use Rattle.treap_ranks.proofs.RankTurn.{RankTurn, rank_turn, children_small, turn_stored, ranked_at_last}
use Rattle.treap_ranks.proofs.ranks.Goals as goal
use Rattle.treap_ranks.proofs.ranks.Goals.{After-standing_at-above, In-loop-j, else-j-eq0, then-j-eq0}

-- what is known in a turn
in_turn : (c : In-loop-j)
    → let args = c.args in
    let loop = c.loop-j in
    RankTurn args.weights.now args.alpha args.n args.order.now args.left.now args.right.now
    loop.rank loop.count (loop.j - 1)
in_turn c =
    let pre = c.requires in
    let inv = c.loop-j.invariant in
    let rank_long = inv.1.long in
    let count_long = inv.2.long in
    rank_turn _ _ _ _ _ _ _ _ _ pre.ready c.loop-j-test.true inv.0 (omega (arith, pre)) (omega (arith, pre)) inv.3

small_children : (c : After-standing_at-above)
    → Small (standing_of c.standing_at-below.result) × Small (standing_of c.standing_at-above.result)
small_children c =
    let t = in_turn (goal.at.After-standing_at-above c).In-loop-j in
    let below = c.standing_at-below in
    let above = c.standing_at-above in
    children_small _ _ _ _ _ _ _ _ _ t (standing_of below.result) (standing_of above.result) below.ensures above.ensures

pub standing_at-below-requires : goal.standing_at-below-requires
standing_at-below-requires c = let t = in_turn (goal.at.standing_at-below-requires c).In-loop-j in omega arith

pub bounds-right-index : goal.bounds-right-index
bounds-right-index c = let t = in_turn (goal.at.bounds-right-index c).In-loop-j in omega arith

pub standing_at-above-requires : goal.standing_at-above-requires
standing_at-above-requires c = let t = in_turn (goal.at.standing_at-above-requires c).In-loop-j in omega arith

pub raise_root-raised-requires : goal.raise_root-raised-requires
raise_root-raised-requires c = small_children (goal.at.raise_root-raised-requires c).After-standing_at-above

pub raise-raised-requires : goal.raise-raised-requires
raise-raised-requires c = small_children (goal.at.raise-raised-requires c).After-standing_at-above

pub bounds-rank-index : goal.bounds-rank-index
bounds-rank-index c = let t = in_turn (goal.at.bounds-rank-index c).In-loop-j in omega arith

pub bounds-count-index : goal.bounds-count-index
bounds-count-index c = let t = in_turn (goal.at.bounds-count-index c).In-loop-j in omega arith

pub loop-j-preserved : goal.loop-j-preserved
loop-j-preserved c =
    let t = in_turn (goal.at.loop-j-preserved c).In-loop-j in
    let inv = c.loop-j.invariant in
    let below = c.standing_at-below in
    let above = c.standing_at-above in
    let raised = standing_of c.if-j-eq0.raised in (
      omega arith,
      kept_store _ _ _ _ _ t.turn.index inv.1,
      kept_store _ _ _ _ _ t.turn.index inv.2,
      turn_stored _ _ _ _ _ _ _ _ _ t (standing_of below.result) (standing_of above.result) below.ensures above.ensures raised
          (elim c.if-j-eq0.branch [
            | then-j-eq0 w ↦ inl (w.if-j-eq0.true, ap standing_of w.raised-is ∙ w.raise_root-raised.ensures)
            | else-j-eq0 w ↦ inr (w.if-j-eq0.false, ap standing_of w.raised-is ∙ w.raise-raised.ensures)
          ]),
    )

pub returns : goal.returns
returns c =
    let pre = c.requires in
    let inv = c.loop-j.invariant in
    let all = ranked_at_last _ _ _ _ _ _ _ _ _ _ _ pre.ready c.loop-j-test.false pre.n_in_bounds.0 pre.n_in_bounds.1 inv.1 inv.2 inv.3 in
    record { ranks = all.0; counts = all.1 }
