-- `table_encode::slot_at` meets its contract. Assumes nothing.
use Rattle.treap_columns.specs.Lent.{lists_of}
use Rattle.table_encode.proofs.Stores.{slot_none, slot_some}
use Rattle.table_encode.proofs.slot_at.Goals as goal

pub returns-then-position-eq0 : goal.returns-then-position-eq0
returns-then-position-eq0 c =
    let args = c.args in
    let (key, (left, (right, (leader, (rank, (count, (long, stored))))))) = c.default.ensures in
    simp (key, left, right, leader, rank, count, long, stored)
    (slot_none args.keys.now args.tags.now (lists_of args.columns) args.position c.if-position-eq0.true)

pub returns : goal.returns
returns c =
    let args = c.args in
    let left = c.key_at-l in
    let right = c.key_at-r in
    let leader = c.key_at-d in
    let long = c.length_in in
    slot_some args.keys.now args.tags.now (lists_of args.columns) args.position left.result right.result leader.result long.result c.stored_in.result
    c.if-position-eq0.false left.ensures right.ensures leader.ensures long.ensures c.stored_in.ensures
