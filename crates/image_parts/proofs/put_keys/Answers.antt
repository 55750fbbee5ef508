-- `image_parts::put_keys` meets its contract. The loop's invariant: the records of the keys passed are written, up to `next`. Assumes nothing.
use mathlib.Core.List.{List}
use mathlib.Core.Path.{sym, subst₂}
use Prim.Native.Nat.{ℕ, ◌+◌, ◌<◌}
use native.Mathlib.Omega.{arith}
use lib.ListN.{length}
use Rattle.lists.proofs.Keep.{all_at}
use Rattle.treap_columns.specs.Lent.{lists_of}
use Rattle.image_parts.proofs.Nodes.{KeysPut, keys_none, keys_room, keys_more, keys_all}
use Rattle.image_parts.proofs.put_keys.Goals as goal

pub loop-i-init : goal.loop-i-init
loop-i-init c = keys_none c.args.keys.now c.args.tags.now (lists_of c.args.columns) c.args.run.now c.args.output.now c.args.at

pub put_key-next-requires-clause-index_and_room : goal.put_key-next-requires-clause-index_and_room
put_key-next-requires-clause-index_and_room c =
    let loop = c.loop-i in
    let size = loop.invariant.size in
    let fits = keys_room c.args.keys.now c.args.tags.now (lists_of c.args.columns) c.args.run.now c.args.output.now c.args.at loop.output loop.next loop.i-index loop.invariant c.loop-i-test.true in
    (all_at (λ i. i < length c.args.keys.now) c.args.run.now loop.i-index 0 c.requires.indices c.loop-i-test.true, omega (arith, c.requires.output_room))

pub loop-i-preserved : goal.loop-i-preserved
loop-i-preserved c =
    let loop = c.loop-i in
    let put = c.put_key-next.ensures in
    let Next : List ℕ → ℕ → Type 0 = λ output next. KeysPut c.args.keys.now c.args.tags.now (lists_of c.args.columns) c.args.run.now c.args.output.now c.args.at output next (loop.i-index + 1) in
    subst₂ Next (sym put.output_after) (sym put.value)
    (keys_more c.args.keys.now c.args.tags.now (lists_of c.args.columns) c.args.run.now c.args.output.now c.args.at loop.output loop.next loop.i-index loop.invariant c.loop-i-test.true c.requires.output_room)

pub returns : goal.returns
returns c =
    let loop = c.loop-i in
    let all = keys_all c.args.keys.now c.args.tags.now (lists_of c.args.columns) c.args.run.now c.args.output.now c.args.at loop.output loop.next loop.i-index loop.invariant c.loop-i-test.false in
    record { value = all.0; output_after = all.1 }
