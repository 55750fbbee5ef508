-- `table_prepare::prepare` meets its contract: priorities, columns, slots. Assumes nothing.
use mathlib.Core.List.{map}
use mathlib.Core.Path.{◌≡◌, sym, ◌∙◌, subst}
use Prim.Native.Nat.{ℕ, ◌≤◌}
use native.Mathlib.Omega.{arith}
use lib.ListN.{length, take, length-map}
use Rattle.priority.specs.Priority.{priority_with}
use Rattle.sorting.specs.ByWeight.{by_weight}
use Rattle.sorting.proofs.ByWeight.{by_weight-length}
use Rattle.treap_columns.specs.Positions.{InOrder}
use Rattle.table_prepare.proofs.Preparing.{room, many_weights, ranking_in_order, prepared_from}
use Rattle.table_prepare.proofs.prepare.Goals as goal
use Rattle.table_prepare.proofs.prepare.Goals.{After-prioritize}

-- once the priorities are made: as many weights as keys, and room for both lists
many : (p : After-prioritize) → length (take (length p.args.keys.now) p.prioritize.new.weights) ≡ length p.args.keys.now
many p = many_weights p.args.salt p.args.keys.now p.prioritize.new.weights p.prioritize.ensures.weights_after

ranking-room : (p : After-prioritize) → length p.args.keys.now ≤ length p.prioritize.new.ranking
ranking-room p =
    let keys = p.args.keys.now in
    room p.prioritize.new.ranking (by_weight (map (priority_with p.args.salt) keys)) (length keys) p.prioritize.ensures.ranking_after (by_weight-length (map (priority_with p.args.salt) keys) ∙ length-map keys (priority_with p.args.salt))

ordered : (p : After-prioritize) → InOrder (take (length p.args.keys.now) p.prioritize.new.weights) (take (length p.args.keys.now) p.prioritize.new.ranking)
ordered p = ranking_in_order p.args.salt p.args.keys.now p.prioritize.new.weights p.prioritize.ensures.weights_after p.prioritize.new.ranking p.prioritize.ensures.ranking_after

pub place-requires-clause-in_order : goal.place-requires-clause-in_order
place-requires-clause-in_order c = ordered (goal.at.place-requires-clause-in_order c).After-prioritize

pub fill-requires-clause-in_order : goal.fill-requires-clause-in_order
fill-requires-clause-in_order c =
    let p = (goal.at.fill-requires-clause-in_order c).After-prioritize in
    let n = length c.args.keys.now in
    let weights = take n c.prioritize.new.weights in
    let same : length weights ≡ n = many p in
    let order-room : n ≤ length c.prioritize.new.ranking = ranking-room p in (
      omega arith,
      subst (λ (m : ℕ). InOrder weights (take m c.prioritize.new.ranking)) (sym same) (ordered p),
    )

pub returns-clause-prepared : goal.returns-clause-prepared
returns-clause-prepared c =
    prepared_from c.args.salt c.args.keys.now c.prioritize.new.weights c.prioritize.ensures.weights_after c.args.order (record { left = c.fill.new.left; right = c.fill.new.right; leader = c.fill.new.leader; rank = c.fill.new.rank; count = c.fill.new.count }) _ c.args.many c.fill.result c.fill.ensures.value c.fill.ensures.filled c.place.ensures
