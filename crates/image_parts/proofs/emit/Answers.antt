-- `image_parts::emit` meets its contract. Assumes nothing.
use mathlib.Core.Path.{sym, ◌∙◌}
use Prim.Native.Nat.{◌+◌, ◌≤◌}
use native.Mathlib.Omega.{arith}
use lib.ListN.{length}
use Rattle.treap_columns.specs.declared.Columns.{Columns}
use Rattle.treap_columns.specs.Lent.{lists_of}
use Rattle.table.specs.Layout.{most_slots}
use Rattle.image.specs.Layout.{header_bytes, salt_bytes}
use Rattle.image.proofs.Records.{head_at_most}
use Rattle.image_parts.specs.Parts.{image_at}
use Rattle.image_parts.proofs.Whole.{image_at_length, blocks_few, measured_few, blocks_fit, image_written}
use Rattle.image_parts.proofs.Room.{written_short, written_whole}
use Rattle.image_parts.proofs.emit.Goals as goal
use Rattle.image_parts.proofs.emit.Goals.{After-count_measured-measured, Start}

abbrev columns : Start → Columns
columns start = lists_of start.args.columns

-- the header is short, and there are no more blocks than keys, and no more measured ones
few : (c : After-count_measured-measured)
    → (c.head_bytes-head.result ≤ header_bytes + salt_bytes)
    × (c.count_runs-blocks.result ≤ most_slots) × ((c.count_measured-measured.result ≤ most_slots) × (length c.args.keys.now ≤ most_slots))
few c =
    let head = c.head_bytes-head in
    let runs = c.count_runs-blocks in
    let found = c.count_measured-measured in
    let small = c.requires.ranked.few in
    let blocks = blocks_few c.args.order c.args.salt c.args.keys.now c.args.tags.now c.args.root (columns (goal.at.After-count_measured-measured c).Start) c.args.weights.now c.args.sorted.now head.result runs.result found.result head.ensures runs.ensures found.ensures c.requires.indices.1 in
    let measured = measured_few c.args.order c.args.salt c.args.keys.now c.args.tags.now c.args.root (columns (goal.at.After-count_measured-measured c).Start) c.args.weights.now c.args.sorted.now head.result runs.result found.result head.ensures runs.ensures found.ensures c.requires.indices.1 in
    (omega (arith, head.ensures, head_at_most c.args.salt), omega arith, (omega arith, omega arith))

pub overflow_mul-size : goal.overflow_mul-size
overflow_mul-size c = omega (arith, few c)

pub overflow_add-size : goal.overflow_add-size
overflow_add-size c = omega (arith, few c)

pub overflow_add-size-2 : goal.overflow_add-size-2
overflow_add-size-2 c = omega (arith, few c)

pub overflow_mul-size-3 : goal.overflow_mul-size-3
overflow_mul-size-3 c = omega (arith, few c)

pub overflow_add-size-3 : goal.overflow_add-size-3
overflow_add-size-3 c = omega (arith, few c)

pub returns-then-output-size-clause-output_after : goal.returns-then-output-size-clause-output_after
returns-then-output-size-clause-output_after c =
    let head = c.head_bytes-head in
    let runs = c.count_runs-blocks in
    let found = c.count_measured-measured in
    let size = image_at_length c.args.order c.args.salt c.args.keys.now c.args.tags.now c.args.root (columns (goal.at.returns-then-output-size-clause-output_after c).Start) c.args.weights.now c.args.sorted.now head.result runs.result found.result head.ensures runs.ensures found.ensures c.requires.indices.1 in sym (written_short c.args.output.now (image_at c.args.order c.args.salt c.args.keys.now c.args.tags.now c.args.root (columns (goal.at.returns-then-output-size-clause-output_after c).Start) c.args.weights.now c.args.sorted.now) (omega (arith, c.if-output-size.true)))

pub returns-then-output-size-clause-value : goal.returns-then-output-size-clause-value
returns-then-output-size-clause-value c =
    let head = c.head_bytes-head in
    let runs = c.count_runs-blocks in
    let found = c.count_measured-measured in
    let size = image_at_length c.args.order c.args.salt c.args.keys.now c.args.tags.now c.args.root (columns (goal.at.returns-then-output-size-clause-value c).Start) c.args.weights.now c.args.sorted.now head.result runs.result found.result head.ensures runs.ensures found.ensures c.requires.indices.1 in size

pub put_blocks-requires-clause-output_room : goal.put_blocks-requires-clause-output_room
put_blocks-requires-clause-output_room c =
    let head = c.head_bytes-head in
    let runs = c.count_runs-blocks in
    let found = c.count_measured-measured in
    let fits = blocks_fit c.args.order c.args.salt c.args.keys.now c.args.tags.now c.args.root (columns (goal.at.put_blocks-requires-clause-output_room c).Start) c.args.weights.now c.args.sorted.now head.result runs.result found.result head.ensures runs.ensures found.ensures c.requires.indices.1 (length c.args.output.now) c.if-output-size.false in omega arith

pub returns-clause-output_after : goal.returns-clause-output_after
returns-clause-output_after c =
    let head = c.head_bytes-head in
    let runs = c.count_runs-blocks in
    let found = c.count_measured-measured in
    let size = image_at_length c.args.order c.args.salt c.args.keys.now c.args.tags.now c.args.root (columns (goal.at.returns-clause-output_after c).Start) c.args.weights.now c.args.sorted.now head.result runs.result found.result head.ensures runs.ensures found.ensures c.requires.indices.1 in
    let room = c.if-output-size.false in image_written c.args.order c.args.salt c.args.keys.now c.args.tags.now c.args.root (columns (goal.at.returns-clause-output_after c).Start) c.args.weights.now c.args.sorted.now head.result runs.result found.result head.ensures runs.ensures found.ensures c.requires.indices.1 c.args.output.now _ _ _ c.key_at-top.ensures room c.put_header.ensures c.put_blocks.ensures
    ∙ sym (written_whole c.args.output.now (image_at c.args.order c.args.salt c.args.keys.now c.args.tags.now c.args.root (columns (goal.at.returns-clause-output_after c).Start) c.args.weights.now c.args.sorted.now) (omega arith))

pub returns-clause-value : goal.returns-clause-value
returns-clause-value c =
    let head = c.head_bytes-head in
    let runs = c.count_runs-blocks in
    let found = c.count_measured-measured in
    let size = image_at_length c.args.order c.args.salt c.args.keys.now c.args.tags.now c.args.root (columns (goal.at.returns-clause-value c).Start) c.args.weights.now c.args.sorted.now head.result runs.result found.result head.ensures runs.ensures found.ensures c.requires.indices.1 in
    let room = c.if-output-size.false in size
