-- `image_collect::is_node` meets its contract. Assumes nothing.
use mathlib.Core.Bool.{true, false}
use mathlib.Core.List.{List}
use mathlib.Core.Path.{◌≡◌, sym, ap₂, ◌∙◌}
use Prim.Native.Nat.{ℕ, ◌≤◌}
use native.Mathlib.Omega.{arith}
use lib.ListN.{length}
use Rattle.measure.specs.Tag.{is_stored}
use Rattle.image.specs.Layout.{node_bytes}
use Rattle.image.specs.Image.{is_measured}
use Rattle.image_collect.proofs.Nodes.{span_least, span_measured, node_short, node_plain, node_measured}
use Rattle.image_collect.proofs.is_node.Goals as goal
use Rattle.image_collect.proofs.is_node.Goals.{After-is_measured, Else-not-is_measured, Then-not-is_measured}

-- the bytes, and what the first two tests say of them
abbrev bytes : After-is_measured → List ℕ
bytes p = p.args.node.now

long : (p : After-is_measured) → node_bytes ≤ length (bytes p)
long p = p.if-size-lt-NODE_BYTES.false

plain : (t : Then-not-is_measured) → is_measured (bytes (goal.at.Then-not-is_measured t).After-is_measured) ≡ false
plain t = sym t.is_measured.ensures ∙ t.if-not-is_measured.true

measured : (e : Else-not-is_measured) → is_measured (bytes (goal.at.Else-not-is_measured e).After-is_measured) ≡ true
measured e = sym e.is_measured.ensures ∙ e.if-not-is_measured.false

pub returns-then-size-lt-NODE_BYTES : goal.returns-then-size-lt-NODE_BYTES
returns-then-size-lt-NODE_BYTES c = let node = c.args.node.now in node_short node (omega (arith, c.if-size-lt-NODE_BYTES.true, span_least node))

pub returns-then-not-is_measured : goal.returns-then-not-is_measured
returns-then-not-is_measured c =
    c.is_marked.ensures ∙ node_plain (bytes (goal.at.returns-then-not-is_measured c).After-is_measured) (long (goal.at.returns-then-not-is_measured c).After-is_measured) (plain (goal.at.returns-then-not-is_measured c).Then-not-is_measured)

pub returns-then-size : goal.returns-then-size
returns-then-size c =
    node_short (bytes (goal.at.returns-then-size c).After-is_measured) (omega (arith, c.if-size.true, span_measured (bytes (goal.at.returns-then-size c).After-is_measured) (measured (goal.at.returns-then-size c).Else-not-is_measured)))

pub returns : goal.returns
returns c =
    c.is_stored.ensures
    ∙ ap₂ is_stored c.get-long.ensures c.get-stored.ensures
    ∙ node_measured (bytes (goal.at.returns c).After-is_measured) c.if-size.false (measured (goal.at.returns c).Else-not-is_measured)
