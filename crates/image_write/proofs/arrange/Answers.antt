-- `image_write::arrange` meets its contract: priorities, columns, weights, order. Assumes nothing.
use mathlib.Core.List.{List, map}
use mathlib.Core.Path.{◌≡◌, sym, ◌∙◌, subst}
use Prim.Native.Nat.{ℕ, ◌≤◌}
use native.Mathlib.Omega.{arith}
use lib.ListN.{length, take, length-map}
use Rattle.priority.specs.Priority.{priority_with}
use Rattle.sorting.specs.ByWeight.{by_weight}
use Rattle.sorting.proofs.ByWeight.{by_weight-length}
use Rattle.treap.specs.Treap.{top}
use Rattle.treap_columns.specs.declared.Columns.{Columns}
use Rattle.treap_columns.specs.Positions.{InOrder, positions, weight_at}
use Rattle.table_prepare.specs.Prepared.{Filled}
use Rattle.table_prepare.proofs.Preparing.{room, many_weights, ranking_in_order}
use Rattle.image_write.proofs.Arranging.{ranked, filled_from, root_from, arranged_from}
use Rattle.image_write.proofs.arrange.Goals as goal
use Rattle.image_write.proofs.arrange.Goals.{After-fill-root, After-prioritize}

-- the weights that the keys have from their priorities
abbrev weights : After-prioritize → List ℕ
weights p = take (length p.args.keys.now) p.prioritize.new.weights

as_many : (p : After-prioritize) → length (weights p) ≡ length p.args.keys.now
as_many p = many_weights p.args.salt p.args.keys.now p.prioritize.new.weights p.prioritize.ensures.weights_after

ranking_room : (p : After-prioritize) → length p.args.keys.now ≤ length p.prioritize.new.ranking
ranking_room p =
    let keys = p.args.keys.now in
    room p.prioritize.new.ranking (by_weight (map (priority_with p.args.salt) keys)) (length keys) p.prioritize.ensures.ranking_after
    (by_weight-length (map (priority_with p.args.salt) keys) ∙ length-map keys (priority_with p.args.salt))

in_order : (p : After-prioritize) → InOrder (weights p) (take (length (weights p)) p.prioritize.new.ranking)
in_order p =
    subst (λ (m : ℕ). InOrder (weights p) (take m p.prioritize.new.ranking)) (sym (as_many p))
    (ranking_in_order p.args.salt p.args.keys.now p.prioritize.new.weights p.prioritize.ensures.weights_after p.prioritize.new.ranking p.prioritize.ensures.ranking_after)

-- the columns and the root
abbrev columns : After-fill-root → Columns
columns f = let new = f.fill-root.new in record { left = new.left; right = new.right; leader = new.leader; rank = new.rank; count = new.count }

filled : (f : After-fill-root) → Filled f.args.order (map (priority_with f.args.salt) f.args.keys.now) (columns f)
filled f = filled_from f.args.order f.args.salt f.args.keys.now f.prioritize.new.weights f.prioritize.ensures.weights_after (columns f) f.fill-root.ensures.filled

root_is : (f : After-fill-root) → f.fill-root.result ≡ top (weight_at (map (priority_with f.args.salt) f.args.keys.now)) (positions (length f.args.keys.now))
root_is f = root_from f.args.order f.args.salt f.args.keys.now f.prioritize.new.weights f.prioritize.ensures.weights_after f.fill-root.result f.fill-root.ensures.value

pub fill-root-requires-clause-in_order : goal.fill-root-requires-clause-in_order
fill-root-requires-clause-in_order c = let p = (goal.at.fill-root-requires-clause-in_order c).After-prioritize in let same = as_many p in (omega (arith, ranking_room p), in_order p)

pub weigh-requires-clause-ranked : goal.weigh-requires-clause-ranked
weigh-requires-clause-ranked c = let f = (goal.at.weigh-requires-clause-ranked c).After-fill-root in ranked c.args.order c.args.salt c.args.keys.now c.requires (columns f) (filled f) c.fill-root.result (root_is f)

pub returns : goal.returns
returns c =
    let f = (goal.at.returns c).After-fill-root in
    arranged_from c.args.order c.args.salt c.args.keys.now (columns f) c.fill-root.result (root_is f) (filled f) _ c.prioritize.new.weights _ c.prioritize.new.ranking c.weigh.ensures c.by_weight.ensures
