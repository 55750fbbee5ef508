-- `image_blocks::names::weigh` meets its contract. The loop's invariant: the first i weights are written. Assumes nothing.
use mathlib.Core.List.{List, map}
use mathlib.Core.Path.{◌≡◌, sym, ap, ap₂, ◌∙◌}
use Prim.Native.Nat.{ℕ}
use native.Mathlib.Numerals.{add-one}
use native.Mathlib.Omega.{arith}
use lib.ListN.{set}
use Rattle.lists.specs.Lists.{up_from, overwrite}
use Rattle.lists.proofs.Overwrite.{overwrite_none}
use Rattle.image_blocks.specs.Naming.{block_weight, block_weights}
use Rattle.image_blocks.proofs.Weights.{mapped_next}
use Rattle.image_blocks.proofs.names.weigh.Goals as goal

pub loop-i-init : goal.loop-i-init
loop-i-init c = (omega arith, sym (overwrite_none c.args.weights.now 0))

pub loop-i-preserved : goal.loop-i-preserved
loop-i-preserved c =
    let loop = c.loop-i in
    let f = block_weight c.args.root c.args.rank.now c.args.leader.now in (
      omega arith,
      ap₂ (λ (xs : List ℕ) (x : ℕ). set xs loop.i x) loop.invariant.1 c.block_weight.ensures
          ∙ mapped_next f c.args.weights.now loop.i (omega arith)
          ∙ ap (λ (j : ℕ). overwrite c.args.weights.now 0 (map f (up_from 0 j))) (sym (add-one loop.i)),
    )

pub returns : goal.returns
unfolding block_weights
returns c =
    let whole : c.loop-i.i ≡ c.args.n = omega arith in
    c.loop-i.invariant.1 ∙ ap (λ (j : ℕ). overwrite c.args.weights.now 0 (map (block_weight c.args.root c.args.rank.now c.args.leader.now) (up_from 0 j))) whole
