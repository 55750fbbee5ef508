-- `image_collect::check_records` meets its contract. The loop's invariant: the records passed are written down, and those to come are
-- read from here on. Assumes nothing.
use mathlib.Core.Bool.{true, false}
use mathlib.Core.List.{List}
use mathlib.Core.Path.{◌≡◌, sym, ap, ◌∙◌, subst}
use Prim.Native.Nat.{ℕ, ◌+◌, ◌-◌, ◌≤◌}
use native.Mathlib.Numerals.{add-one}
use native.Mathlib.Omega.{arith}
use lib.ListN.{length, take, drop, set, length-drop}
use Rattle.measure.specs.Tag.{tag_of}
use Rattle.image.specs.Layout.{node_bytes}
use Rattle.image.specs.Image.{node_span, entry_shown}
use Rattle.image_collect.specs.Reading.{is_node, are_nodes}
use Rattle.image_collect.proofs.Nodes.{node_inside, node_long}
use Rattle.image_collect.proofs.Passing.{Passed, passed_none, stops, passed_more, ends_here, broken, claims_nothing, from_index, key_shown}
use borrow.Author.Rules.{rules}
use Rattle.image_collect.proofs.check_records.Goals as goal
use Rattle.image_collect.proofs.check_records.Goals.{After-node_span-at, At-loop-i, Else-not-is_node, Then-not-is_node}

-- the bytes from the next record on
abbrev here : At-loop-i → List ℕ
here p = drop p.loop-i.at p.args.records.now

lent : (p : At-loop-i) → take (length p.args.records.now - p.loop-i.at) (here p) ≡ here p
lent p = from_index p.loop-i.at p.args.records.now

right : (e : Else-not-is_node) → is_node (here (goal.at.Else-not-is_node e).At-loop-i) ≡ true
right e = ap is_node (sym (lent (goal.at.Else-not-is_node e).At-loop-i)) ∙ sym e.is_node.ensures ∙ e.if-not-is_node.false

inside : (e : Else-not-is_node) → e.loop-i.at + node_span (here (goal.at.Else-not-is_node e).At-loop-i) ≤ length e.args.records.now
inside e = omega (arith, node_inside (here (goal.at.Else-not-is_node e).At-loop-i) (right e), length-drop e.loop-i.at e.args.records.now, e.loop-i.invariant.within)

fields_inside : (e : Else-not-is_node) → e.loop-i.at + node_bytes ≤ length e.args.records.now
fields_inside e = omega (arith, node_long (here (goal.at.Else-not-is_node e).At-loop-i) (right e), length-drop e.loop-i.at e.args.records.now, e.loop-i.invariant.within)

span_is : (c : After-node_span-at) → c.node_span-at.result ≡ node_span (here (goal.at.After-node_span-at c).At-loop-i)
span_is c = c.node_span-at.ensures ∙ ap node_span (lent (goal.at.After-node_span-at c).At-loop-i)

tag_is : (c : After-node_span-at) → c.tag_shown.result ≡ tag_of (entry_shown (here (goal.at.After-node_span-at c).At-loop-i)).measure
tag_is c = c.tag_shown.ensures ∙ ap (λ (l : List ℕ). tag_of (entry_shown l).measure) (lent (goal.at.After-node_span-at c).At-loop-i)

key_is : (c : After-node_span-at) → c.get.result ≡ (entry_shown (here (goal.at.After-node_span-at c).At-loop-i)).key
key_is c = c.get.ensures ∙ key_shown c.loop-i.at c.args.records.now

-- a record that is none
wrong : (c : Then-not-is_node) → are_nodes c.args.held c.args.records.now ≡ false
wrong c =
    let args = c.args in
    stops args.records.now args.keys.now args.tags.now args.held args.from c.requires.0 c.requires.1 c.loop-i.invariant c.loop-i-test.true
    (ap is_node (sym (lent (goal.at.Then-not-is_node c).At-loop-i)) ∙ sym c.is_node.ensures ∙ c.if-not-is_node.true)

pub loop-i-init : goal.loop-i-init
loop-i-init c =
    let args = c.args in
    passed_none args.records.now args.keys.now args.tags.now args.held args.from

pub returns-then-not-is_node : goal.returns-then-not-is_node
returns-then-not-is_node c =
    let no_nodes = wrong c in
    let held = c.args.held in
    let records = c.args.records.now in
    record { value = broken held records no_nodes; keys_after = claims_nothing held records no_nodes; tags_after = claims_nothing held records no_nodes }

pub get-requires : goal.get-requires
get-requires c = (omega (arith, fields_inside c), omega arith)

pub node_span-at-requires : goal.node_span-at-requires
node_span-at-requires c =
    let at = goal.at.node_span-at-requires c in
    omega (arith, ap length (lent at.At-loop-i), node_long (here at.At-loop-i) (right at.Else-not-is_node))

pub overflow_add-at-in-loop-i : goal.overflow_add-at-in-loop-i
overflow_add-at-in-loop-i c = let h = inside (goal.at.overflow_add-at-in-loop-i c).Else-not-is_node in let s = span_is c in search rules

pub loop-i-preserved : goal.loop-i-preserved
loop-i-preserved c =
    let args = c.args in
    let loop = c.loop-i in
    let key = c.get.result in
    let tag = c.tag_shown.result in
    subst (Passed args.records.now args.keys.now args.tags.now args.held args.from (set loop.keys (args.from + loop.i) key) (set loop.tags (args.from + loop.i) tag) (loop.at + c.node_span-at.result))
    (sym (add-one loop.i))
    (passed_more args.records.now args.keys.now args.tags.now args.held args.from c.requires.0 c.requires.1 loop.invariant c.loop-i-test.true (right (goal.at.loop-i-preserved c).Else-not-is_node) key tag c.node_span-at.result (key_is c) (tag_is c) (span_is c))

pub returns-clause-value : goal.returns-clause-value
returns-clause-value c =
    let args = c.args in
    let end : args.held ≤ c.loop-i.i = omega (arith, c.loop-i-test.false) in ends_here args.records.now args.keys.now args.tags.now args.held args.from c.requires.0 c.requires.1 c.loop-i.invariant end
