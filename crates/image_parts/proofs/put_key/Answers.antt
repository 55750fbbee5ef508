-- `image_parts::put_key` meets its contract. Assumes nothing.
use mathlib.Core.Path.{sym, ap, ◌∙◌, subst}
use Prim.Native.Nat.{ℕ, ◌+◌, ◌≤◌}
use lib.ListN.{length}
use Rattle.lists.specs.Lists.{overwrite}
use Rattle.treap_columns.specs.Lent.{lists_of}
use Rattle.image_parts.proofs.Nodes.{node_is, node_bytes_are}
use Rattle.image_parts.proofs.put_key.Goals as goal

pub put_node-requires : goal.put_node-requires
put_node-requires c =
    let long = c.length_in-long in
    subst (λ (n : ℕ). c.args.at + n ≤ length c.args.output.now) (sym (node_bytes_are c.args.keys.now c.args.tags.now (lists_of c.args.columns) c.args.i long.result long.ensures)) c.requires.index_and_room.1

pub returns-clause-output_after : goal.returns-clause-output_after
returns-clause-output_after c =
    let put = c.put_node in
    let long = c.length_in-long in
    let stored = c.stored_in-stored in put.ensures.output_after
    ∙ ap (overwrite c.args.output.now c.args.at) (node_is c.args.keys.now c.args.tags.now (lists_of c.args.columns) c.args.i _ _ _ _ c.key_at-l.ensures c.key_at-r.ensures long.ensures stored.ensures)

pub returns-clause-value : goal.returns-clause-value
returns-clause-value c =
    let put = c.put_node in
    let long = c.length_in-long in
    let stored = c.stored_in-stored in put.ensures.value ∙ ap (λ (n : ℕ). c.args.at + n) (node_bytes_are c.args.keys.now c.args.tags.now (lists_of c.args.columns) c.args.i long.result long.ensures)
