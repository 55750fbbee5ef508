-- `image_collect::collect` meets its contract. The loop's invariant: the entries of the blocks passed are collected. Assumes nothing.
use mathlib.Core.Bool.{true, false}
use mathlib.Core.List.{List}
use mathlib.Core.Path.{◌≡◌, refl, sym, ap, ◌∙◌, subst}
use Prim.Native.Nat.{ℕ, ◌+◌, ◌-◌, ◌<◌, ◌≤◌}
use native.Mathlib.Numerals.{add-one}
use native.Mathlib.Omega.{arith}
use Rattle.std.proofs.Common.{None}
use lib.ListN.{length, take, drop, length-drop}
use Rattle.lists.specs.Lists.{overwrite}
use Rattle.treap.specs.Image.{count_bytes}
use Rattle.table.specs.Contents.{entry_keys}
use Rattle.table.specs.Tags.{entry_tags}
use Rattle.image.specs.Layout.{block_bytes, held_at}
use Rattle.image.specs.Image.{header_span, field_at, node_entries, nodes_span}
use Rattle.image.proofs.Records.{header_within}
use Rattle.image_collect.specs.Reading.{are_nodes, checked, blocks_of, entries_of, readable, collected}
use Rattle.image_collect.proofs.Nodes.{nodes_inside}
use Rattle.image_collect.proofs.Passing.{from_index, told_broken, told_end}
use Rattle.image_collect.proofs.Walking.{Walked, broken, claims_nothing, no_header, walked_none, keys_size, short, no_nodes, too_many, walked_more, all_collected}
use borrow.Author.Rules.{rules}
use Rattle.image_collect.proofs.collect.Goals as goal
use Rattle.image_collect.proofs.collect.Goals.{After-check_records, After-get-held, At-loop, Else-keys-n, In-loop, In_err-span, In_ok-span, Then-keys-n, Then-size-at-lt-BLOCK_BYTES, Then-size-head}

-- ---- places
header : (p : At-loop) → header_span p.args.image.now ≤ length p.args.image.now
header p = omega (arith, p.if-size-head.false, p.header_span-head.ensures)

blocks_is : (p : At-loop) → p.get-blocks.result ≡ blocks_of p.args.image.now
unfolding blocks_of
blocks_is p = p.get-blocks.ensures

more : (c : In-loop) → c.loop.counter < blocks_of c.args.image.now
more c = omega (arith, c.loop-test.true, blocks_is (goal.at.In-loop c).At-loop)

keys_kept : (p : At-loop) → length p.loop.keys ≡ length p.args.keys.now
keys_kept p = keys_size p.args.image.now p.args.keys.now p.args.tags.now (header p) p.requires p.loop.invariant

-- the block's node records, and what checking them finds
abbrev records : Else-keys-n → List ℕ
records e = drop (e.loop.at + block_bytes) e.args.image.now

handed_on : (e : Else-keys-n) → take (length e.args.image.now - (e.loop.at + block_bytes)) (records e) ≡ records e
handed_on e = from_index (e.loop.at + block_bytes) e.args.image.now

told : (q : After-check_records) → checked q.get-held.result (records (goal.at.After-check_records q).Else-keys-n) ≡ q.check_records.result
told q = sym (q.check_records.ensures.value ∙ ap (checked q.get-held.result) (handed_on (goal.at.After-check_records q).Else-keys-n))

ends : (c : In_ok-span) → let nodes = records (goal.at.In_ok-span c).Else-keys-n in (are_nodes c.get-held.result nodes ≡ true) × (nodes_span c.get-held.result nodes ≡ c.in_ok-span.span)
ends c = told_end c.get-held.result (records (goal.at.In_ok-span c).Else-keys-n) c.in_ok-span.span (told (goal.at.In_ok-span c).After-check_records ∙ c.in_ok-span.was)

nodes_end : (c : In_ok-span) → c.loop.at + block_bytes + c.in_ok-span.span ≤ length c.args.image.now
nodes_end c =
    let nodes = records (goal.at.In_ok-span c).Else-keys-n in
    let (right, span_is) = ends c in
    omega
    (arith, span_is, nodes_inside c.get-held.result nodes right, length-drop (c.loop.at + block_bytes) c.args.image.now, c.if-size-at-lt-BLOCK_BYTES.false, c.loop.invariant.within)

module _ (q : After-check_records) (right : are_nodes q.get-held.result (records (goal.at.After-check_records q).Else-keys-n) ≡ true) where
  abbrev nodes : List ℕ
  nodes = records (goal.at.After-check_records q).Else-keys-n

  keys_are : q.check_records.new.keys ≡ overwrite q.loop.keys q.loop.n (entry_keys (node_entries q.get-held.result nodes))
  keys_are = let same = handed_on (goal.at.After-check_records q).Else-keys-n in rw same at (q.check_records.ensures.keys_after (ap (are_nodes q.get-held.result) same ∙ right))

  tags_are : q.check_records.new.tags ≡ overwrite q.loop.tags q.loop.n (entry_tags (node_entries q.get-held.result nodes))
  tags_are = let same = handed_on (goal.at.After-check_records q).Else-keys-n in rw same at (q.check_records.ensures.tags_after (ap (are_nodes q.get-held.result) same ∙ right))

-- ---- what cannot be read
no_header_here : (c : Then-size-head) → readable (length c.args.keys.now) c.args.image.now ≡ false
no_header_here c = no_header c.args.image.now c.args.keys.now c.args.tags.now (omega (arith, c.if-size-head.true, c.header_span-head.ensures))

short_here : (c : Then-size-at-lt-BLOCK_BYTES) → readable (length c.args.keys.now) c.args.image.now ≡ false
short_here c =
    let at = goal.at.Then-size-at-lt-BLOCK_BYTES c in
    short c.args.image.now c.args.keys.now c.args.tags.now (header at.At-loop) c.requires c.loop.invariant (more at.In-loop)
    (field_at (c.loop.at + held_at) count_bytes c.args.image.now) refl (omega (arith, c.if-size-at-lt-BLOCK_BYTES.true))

too_many_here : (c : Then-keys-n) → readable (length c.args.keys.now) c.args.image.now ≡ false
too_many_here c =
    let at = goal.at.Then-keys-n c in
    too_many c.args.image.now c.args.keys.now c.args.tags.now (header at.At-loop) c.requires c.loop.invariant (more at.In-loop)
    c.get-held.result c.get-held.ensures (omega (arith, c.if-keys-n.true, keys_kept at.At-loop))

no_nodes_here : (c : In_err-span) → readable (length c.args.keys.now) c.args.image.now ≡ false
no_nodes_here c =
    let at = goal.at.In_err-span c in
    no_nodes c.args.image.now c.args.keys.now c.args.tags.now (header at.At-loop) c.requires c.loop.invariant (more at.In-loop)
    c.get-held.result c.get-held.ensures
    (told_broken c.get-held.result (records at.Else-keys-n) (told at.After-check_records ∙ c.in_err-span.was))

-- what the call then returns, which says nothing of the lists
abbrev Answered : (bytes keys keys-after tags tags-after : List ℕ) → Type 0
Answered bytes keys keys-after tags tags-after =
    record {
      value : None ≡ collected (length keys) bytes;
      keys_after : readable (length keys) bytes ≡ true → keys-after ≡ overwrite keys 0 (entry_keys (entries_of bytes));
      tags_after : readable (length keys) bytes ≡ true → tags-after ≡ overwrite tags 0 (entry_tags (entries_of bytes));
    }

unread : (bytes keys keys-after tags tags-after : List ℕ) → readable (length keys) bytes ≡ false → Answered bytes keys keys-after tags tags-after
unread bytes keys keys-after tags tags-after e = record { value = broken bytes keys tags e; keys_after = claims_nothing bytes keys tags e; tags_after = claims_nothing bytes keys tags e }

pub returns-then-size-head : goal.returns-then-size-head
returns-then-size-head c = unread _ _ _ _ _ (no_header_here c)

pub get-blocks-requires : goal.get-blocks-requires
get-blocks-requires c = (omega (arith, c.if-size-head.false, c.header_span-head.ensures, header_within c.args.image.now), omega arith)

pub loop-init : goal.loop-init
loop-init c =
    let head = c.header_span-head in
    walked_none c.args.image.now c.args.keys.now c.args.tags.now (omega (arith, c.if-size-head.false, head.ensures)) c.requires head.result head.ensures

pub returns-then-size-at-lt-BLOCK_BYTES : goal.returns-then-size-at-lt-BLOCK_BYTES
returns-then-size-at-lt-BLOCK_BYTES c = unread _ _ _ _ _ (short_here c)

pub returns-then-keys-n : goal.returns-then-keys-n
returns-then-keys-n c = unread _ _ _ _ _ (too_many_here c)

pub returns-in_err-span : goal.returns-in_err-span
returns-in_err-span c = rw c.from_residual.ensures (unread _ _ _ _ _ (no_nodes_here (goal.at.returns-in_err-span c).In_err-span))

pub overflow_add-at-in-loop : goal.overflow_add-at-in-loop
overflow_add-at-in-loop c = let h = nodes_end c in search rules

pub loop-preserved : goal.loop-preserved
loop-preserved c =
    let at = goal.at.loop-preserved c in
    let loop = c.loop in
    let check = c.check_records in
    let (right, span_is) = ends c in
    subst (Walked c.args.image.now c.args.keys.now c.args.tags.now check.new.keys check.new.tags (loop.at + block_bytes + c.in_ok-span.span) (loop.n + c.get-held.result)) (sym (add-one loop.counter))
    (walked_more c.args.image.now c.args.keys.now c.args.tags.now (header at.At-loop) c.requires loop.invariant (more at.In-loop) c.get-held.result c.get-held.ensures
    c.if-size-at-lt-BLOCK_BYTES.false (omega (arith, c.if-keys-n.false, keys_kept at.At-loop)) right check.new.keys check.new.tags (keys_are at.After-check_records right) (tags_are at.After-check_records right) c.in_ok-span.span (sym span_is))

pub returns : goal.returns
returns c =
    let at = goal.at.returns c in
    let end : blocks_of c.args.image.now ≤ c.loop.counter = omega (arith, c.loop-test.false, blocks_is at.At-loop) in
    let collected-all = all_collected c.args.image.now c.args.keys.now c.args.tags.now (header at.At-loop) c.requires c.loop.invariant end in
    record { value = collected-all.0; keys_after = λ _. collected-all.1; tags_after = λ _. collected-all.2 }
