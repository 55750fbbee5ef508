-- `text_listing::records::Records::next` meets its contract. Assumes nothing.
use native.Mathlib.Omega.{arith}
use borrow.Author.Rules.{rules}
use lib.ListN.{length, take, drop}
use Prim.Native.Nat.{◌-◌, ◌≤◌}
use Rattle.image.specs.Layout.{block_bytes}
use Rattle.text_listing.specs.Shown.{held_in}
use Rattle.text_listing.proofs.Walking.{Turn, key_inside, key_passed, block_inside, block_passed}
use Rattle.text_listing.proofs.records.RecordsIterator.next.Goals as goal
use Rattle.text_listing.proofs.records.RecordsIterator.next.Goals.{Then-self-gt0, Then-self-gt0-2, After-key_line, After-block_line}

key : (c : After-key_line) →
    let left = c.args.self.now in
    let span = c.node_span.result in
    Turn left.keys left.blocks left.bytes.now c.key_line.result (left.keys - 1) left.blocks (take (length left.bytes.now - span) (drop span left.bytes.now))
key c = key_passed _ _ _ c.requires c.if-self-gt0.true c.node_span.result c.node_span.ensures c.key_line.result c.key_line.ensures

block : (c : After-block_line) →
    let left = c.args.self.now in
    Turn left.keys left.blocks left.bytes.now c.block_line.result c.get-held.result (left.blocks - 1) (take (length left.bytes.now - block_bytes) (drop block_bytes left.bytes.now))
unfolding held_in
block c = block_passed _ _ _ c.requires c.if-self-gt0.false c.if-self-gt0-2.true c.get-held.result c.get-held.ensures c.block_line.result c.block_line.ensures

inside : (c : Then-self-gt0-2) → block_bytes ≤ length c.args.self.now.bytes.now
inside c = block_inside _ _ _ c.requires c.if-self-gt0.false c.if-self-gt0-2.true

pub node_span-requires : goal.node_span-requires
node_span-requires c = key_inside _ _ _ c.requires c.if-self-gt0.true

pub key_line-requires : goal.key_line-requires
key_line-requires c = key_inside _ _ _ c.requires c.if-self-gt0.true

pub returns-then-self-gt0-clause-steps : goal.returns-then-self-gt0-clause-steps
returns-then-self-gt0-clause-steps c = let turn = key (goal.at.returns-then-self-gt0-clause-steps c).After-key_line in record { shows = turn.shows; passes = turn.passes }

pub returns-then-self-gt0-clause-goes : goal.returns-then-self-gt0-clause-goes
returns-then-self-gt0-clause-goes c =
    let turn = key (goal.at.returns-then-self-gt0-clause-goes c).After-key_line in
    record { on = λ _. (turn.there, tt, turn.shorter); keeps = turn.there; rests = λ _. tt }

pub get-held-requires : goal.get-held-requires
get-held-requires c = (inside (goal.at.get-held-requires c).Then-self-gt0-2, omega arith)

pub slice_bounds-self-count-then-self-gt0-2 : goal.slice_bounds-self-count-then-self-gt0-2
slice_bounds-self-count-then-self-gt0-2 c = inside (goal.at.slice_bounds-self-count-then-self-gt0-2 c).Then-self-gt0-2

pub slice_bounds-self-start-then-self-gt0-2 : goal.slice_bounds-self-start-then-self-gt0-2
slice_bounds-self-start-then-self-gt0-2 c = let fits = inside (goal.at.slice_bounds-self-start-then-self-gt0-2 c).Then-self-gt0-2 in search rules

pub block_line-requires : goal.block_line-requires
block_line-requires c = inside (goal.at.block_line-requires c).Then-self-gt0-2

pub returns-then-self-gt0-2-clause-steps : goal.returns-then-self-gt0-2-clause-steps
returns-then-self-gt0-2-clause-steps c = let turn = block (goal.at.returns-then-self-gt0-2-clause-steps c).After-block_line in record { shows = turn.shows; passes = turn.passes }

pub returns-then-self-gt0-2-clause-goes : goal.returns-then-self-gt0-2-clause-goes
returns-then-self-gt0-2-clause-goes c =
    let turn = block (goal.at.returns-then-self-gt0-2-clause-goes c).After-block_line in
    record { on = λ _. (turn.there, tt, turn.shorter); keeps = turn.there; rests = λ _. tt }
