-- `table_prepare::fill` meets its contract: links, then ranks and counts, then leaders. Assumes nothing.
use mathlib.Core.Path.{refl, ap}
use Prim.Native.Nat.{◌≤◌}
use native.Mathlib.Omega.{arith}
use lib.ListN.{length, drop, length-append}
use Rattle.treap.specs.Treap.{left_link, right_link}
use Rattle.treap.specs.Levels.{rank, count, leader}
use Rattle.treap_columns.specs.Positions.{positions, weight_at}
use Rattle.treap_columns.specs.Columns.{left_column, right_column, rank_column, count_column, leader_column, Ready}
use Rattle.lists.proofs.Start.{starts_with, starts_and, as_long}
use Rattle.treap_columns.proofs.Filled.{column_length}
use Rattle.table_prepare.proofs.fill.Goals as goal
use Rattle.table_prepare.proofs.fill.Goals.{After-links-root}

-- once the links are written, the ranks and the leaders can be filled
ready : (c : After-links-root) →
    Ready c.args.weights.now c.args.order (length c.args.weights.now) c.args.ranking.now c.links-root.new.left c.links-root.new.right
ready c =
    let ws = c.args.weights.now in
    let n = length ws in
    let lefts = column_length (left_link (weight_at ws) (positions n)) n in
    let rights = column_length (right_link (weight_at ws) (positions n)) n in
    let left_long = as_long c.links-root.new.left c.args.left.now (left_column ws n) n c.links-root.ensures.left_after lefts (omega arith) in
    let right_long = as_long c.links-root.new.right c.args.right.now (right_column ws n) n c.links-root.ensures.right_after rights (omega arith) in
    record {
      wide = c.requires.order_in_range.0;
      narrow = c.requires.order_in_range.1;
      whole = refl;
      few = c.requires.order_in_range.2;
      order_room = c.requires.in_order.0;
      left_room = omega arith;
      right_room = omega arith;
      in_order = c.requires.in_order.1;
      lefts = starts_with c.links-root.new.left c.args.left.now (left_column ws n) n c.links-root.ensures.left_after lefts;
      rights = starts_with c.links-root.new.right c.args.right.now (right_column ws n) n c.links-root.ensures.right_after rights;
    }

pub ranks-requires-clause-ready : goal.ranks-requires-clause-ready
ranks-requires-clause-ready c =
    ready (goal.at.ranks-requires-clause-ready c).After-links-root

pub leaders-requires-clause-ready : goal.leaders-requires-clause-ready
leaders-requires-clause-ready c =
    let ws = c.args.weights.now in
    let n = length ws in
    let ranks = c.ranks in
    let long : n ≤ length ranks.new.rank =
    omega (arith, ap length ranks.ensures.ranks, length-append (rank_column c.args.order ws n) (drop n c.args.rank.now), column_length (rank c.args.order (weight_at ws) (positions n)) n)
    in ready (goal.at.leaders-requires-clause-ready c).After-links-root

pub returns-clause-filled : goal.returns-clause-filled
returns-clause-filled c =
    let ws = c.args.weights.now in
    let n = length ws in
    let links = c.links-root in
    let ranks = c.ranks in
    let leaders = c.leaders in
    let done = ready (goal.at.returns-clause-filled c).After-links-root in record {
      lefts = done.lefts;
      rights = done.rights;
      ranks = starts_and ranks.new.rank c.args.rank.now (rank_column c.args.order ws n) n ranks.ensures.ranks (column_length (rank c.args.order (weight_at ws) (positions n)) n);
      counts = starts_and ranks.new.count c.args.count.now (count_column c.args.order ws n) n ranks.ensures.counts (column_length (count c.args.order (weight_at ws) (positions n)) n);
      leaders = starts_and leaders.new.leader c.args.leader.now (leader_column c.args.order ws n) n leaders.ensures (column_length (leader c.args.order (weight_at ws) (positions n)) n);
    }
