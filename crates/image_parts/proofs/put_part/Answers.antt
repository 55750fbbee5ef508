-- `image_parts::put_part` meets its contract. Assumes nothing.
use mathlib.Core.List.{flat_map}
use mathlib.Core.Path.{◌≡◌, ap, ◌∙◌}
use Prim.Native.Nat.{◌+◌, ◌<◌}
use native.Mathlib.Omega.{arith}
use lib.ListN.{length, get_or}
use Rattle.lists.proofs.Keep.{all_at}
use Rattle.image.specs.Layout.{block_bytes}
use Rattle.treap_columns.specs.Lent.{lists_of}
use Rattle.table_encode.specs.Encode.{key_at}
use Rattle.image_blocks.proofs.Weights.{leader_bound}
use Rattle.image_parts.specs.Parts.{node_at, block_at}
use Rattle.image_parts.proofs.Nodes.{block_at_length, part_written}
use Rattle.image_parts.proofs.put_part.Goals as goal
use Rattle.image_parts.proofs.put_part.Goals.{Start}

long : (start : Start) → let columns = lists_of start.args.columns in length (block_at start.args.keys.now start.args.tags.now start.args.root columns start.args.run.now) ≡ block_bytes + length (flat_map (node_at start.args.keys.now start.args.tags.now columns) start.args.run.now)
long start = block_at_length start.args.keys.now start.args.tags.now start.args.root (lists_of start.args.columns) start.args.run.now

pub key_at-name-requires : goal.key_at-name-requires
key_at-name-requires c =
    let first = get_or c.args.run.now 0 0 in
    let low : first < length c.args.keys.now = all_at (λ i. i < length c.args.keys.now) c.args.run.now 0 0 c.requires.indices.1 c.requires.indices.0 in
    omega (arith, c.leader_at-leader.ensures, leader_bound (length c.args.keys.now) c.args.root c.args.columns.rank.now c.args.columns.leader.now c.requires.ranked first low)

pub put_block-requires : goal.put_block-requires
put_block-requires c = omega (arith, c.requires.output_room, long (goal.at.put_block-requires c).Start)

pub put_keys-requires-clause-output_room : goal.put_keys-requires-clause-output_room
put_keys-requires-clause-output_room c = omega (arith, c.requires.output_room, long (goal.at.put_keys-requires-clause-output_room c).Start)

pub returns-clause-output_after : goal.returns-clause-output_after
returns-clause-output_after c =
    part_written c.args.keys.now c.args.tags.now c.args.root (lists_of c.args.columns) c.args.run.now c.args.output.now _ _ c.args.at _ _ c.requires.output_room c.level_at-level.ensures (c.key_at-name.ensures ∙ ap (key_at c.args.keys.now) c.leader_at-leader.ensures) c.put_block.ensures c.put_keys.ensures.output_after

pub returns-clause-value : goal.returns-clause-value
returns-clause-value c = omega (arith, c.put_keys.ensures.value, long (goal.at.returns-clause-value c).Start)
