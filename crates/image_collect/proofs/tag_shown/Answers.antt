-- `image_collect::tag_shown` meets its contract. Assumes nothing.
use mathlib.Core.Bool.{true}
use mathlib.Core.List.{List}
use mathlib.Core.Path.{◌≡◌, sym, ap₂, ◌∙◌}
use Prim.Native.Nat.{ℕ, ◌+◌, ◌≤◌}
use native.Mathlib.Omega.{arith}
use lib.ListN.{length}
use Rattle.measure.specs.Tag.{is_stored, tag_from}
use Rattle.image.specs.Layout.{node_bytes, measure_bytes}
use Rattle.image.specs.Image.{is_measured}
use Rattle.image_collect.proofs.Nodes.{span_measured, node_inside, node_long, node_stored, tag_plain, tag_measured}
use Rattle.image_collect.proofs.tag_shown.Goals as goal
use Rattle.image_collect.proofs.tag_shown.Goals.{Else-not-is_measured}

abbrev bytes : Else-not-is_measured → List ℕ
bytes e = e.args.node.now

measured : (e : Else-not-is_measured) → is_measured (bytes e) ≡ true
measured e = sym e.is_measured.ensures ∙ e.if-not-is_measured.false

long : (e : Else-not-is_measured) → node_bytes + measure_bytes ≤ length (bytes e)
long e = omega (arith, node_inside (bytes e) e.requires, span_measured (bytes e) (measured e))

pub is_measured-requires : goal.is_measured-requires
is_measured-requires c = node_long c.args.node.now c.requires

pub returns-then-not-is_measured : goal.returns-then-not-is_measured
returns-then-not-is_measured c =
    tag_plain c.args.node.now (sym c.is_measured.ensures ∙ c.if-not-is_measured.true)

pub get-long-requires : goal.get-long-requires
get-long-requires c = (omega (arith, long c), omega arith)

pub get-stored-requires : goal.get-stored-requires
get-stored-requires c = (long (goal.at.get-stored-requires c).Else-not-is_measured, omega arith)

pub tag_from-requires : goal.tag_from-requires
tag_from-requires c =
    ap₂ is_stored c.get-long.ensures c.get-stored.ensures ∙ node_stored (bytes (goal.at.tag_from-requires c).Else-not-is_measured) c.requires (measured (goal.at.tag_from-requires c).Else-not-is_measured)

pub returns : goal.returns
returns c =
    c.tag_from.ensures ∙ ap₂ tag_from c.get-long.ensures c.get-stored.ensures ∙ tag_measured (bytes (goal.at.returns c).Else-not-is_measured) c.requires (measured (goal.at.returns c).Else-not-is_measured)
