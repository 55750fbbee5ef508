-- `image_parts::put_blocks` meets its contract. The loop's invariant: the parts of the blocks before `low` are written.
-- Assumes nothing.
use mathlib.Core.List.{List}
use mathlib.Core.Path.{◌≡◌, sym, ap, ◌∙◌, subst, subst₂}
use Prim.Native.Nat.{ℕ, ◌+◌, ◌-◌, ◌<◌}
use native.Mathlib.Omega.{arith}
use Rattle.std.proofs.lemmas.List.{drop-take}
use lib.ListN.{length, take, drop}
use lib.Seq.{slice, length-slice}
use Rattle.lists.specs.Lists.{All, overwrite}
use Rattle.lists.proofs.Keep.{all_at}
use Rattle.lists.proofs.RunEnds.{all_slice_when}
use Rattle.treap_columns.specs.Lent.{lists_of}
use Rattle.image_parts.specs.Parts.{block_at}
use Rattle.image_parts.proofs.Passing.{BlocksPut, blocks_none, blocks_room, blocks_more, blocks_all}
use Rattle.image_parts.proofs.put_blocks.Goals as goal
use Rattle.image_parts.proofs.put_blocks.Goals.{After-run_end-high}

pub loop-low-init : goal.loop-low-init
loop-low-init c =
    blocks_none c.args.keys.now c.args.tags.now c.args.root (lists_of c.args.columns) c.args.weights.now c.args.from c.args.sorted.now c.args.output.now

pub run_end-high-requires : goal.run_end-high-requires
run_end-high-requires c =
    (c.loop-low-test.true, subst (λ (n : ℕ). All (λ i. i < n) c.args.sorted.now) (sym c.requires.indices.0) c.requires.indices.1)

-- the run that is handed on
run_is : (c : After-run_end-high) → take (c.run_end-high.result - c.loop-low.low) (drop c.loop-low.low c.args.sorted.now) ≡ slice c.loop-low.low c.run_end-high.result c.args.sorted.now
run_is c =
    let low = c.loop-low.low in
    let high = c.run_end-high.result in
    let ends = c.run_end-high.ensures in
    let some = ends.some in
    let whole : low + (high - low) ≡ high = omega arith in
    sym (ap (λ (n : ℕ). drop low (take n c.args.sorted.now)) (sym whole) ∙ drop-take low (high - low) c.args.sorted.now)

pub put_part-at-requires-clause-indices : goal.put_part-at-requires-clause-indices
put_part-at-requires-clause-indices c =
    let place = (goal.at.put_part-at-requires-clause-indices c).After-run_end-high in
    let low = c.loop-low.low in
    let high = c.run_end-high.result in
    let ends = c.run_end-high.ensures in
    let some = ends.some in
    let within = ends.within in
    let Index : ℕ → Type 0 = λ i. i < length c.args.keys.now in
    let Part : List ℕ → Type 0 = λ run. (0 < length run) × All Index run in
    subst Part (sym (run_is place))
    (omega (arith, length-slice low high c.args.sorted.now within), all_slice_when Index low high c.args.sorted.now within (λ i l m. all_at Index c.args.sorted.now i 0 c.requires.indices.1 (omega arith)))

pub put_part-at-requires-clause-output_room : goal.put_part-at-requires-clause-output_room
put_part-at-requires-clause-output_room c =
    let place = (goal.at.put_part-at-requires-clause-output_room c).After-run_end-high in
    let loop = c.loop-low in
    let ends = c.run_end-high.ensures in
    let size = loop.invariant.size in
    let columns = lists_of c.args.columns in
    let fits = blocks_room c.args.keys.now c.args.tags.now c.args.root columns c.args.weights.now c.args.from c.args.sorted.now c.args.output.now loop.output loop.low loop.at loop.invariant c.run_end-high.result ends c.requires.output_room in
    omega (arith, ap (λ (run : List ℕ). length (block_at c.args.keys.now c.args.tags.now c.args.root columns run)) (run_is place))

pub loop-low-preserved : goal.loop-low-preserved
loop-low-preserved c =
    let place = (goal.at.loop-low-preserved c).After-run_end-high in
    let loop = c.loop-low in
    let ends = c.run_end-high in
    let put = c.put_part-at.ensures in
    let columns = lists_of c.args.columns in
    let part = block_at c.args.keys.now c.args.tags.now c.args.root columns in
    let Next : List ℕ → ℕ → Type 0 = λ output at. BlocksPut c.args.keys.now c.args.tags.now c.args.root columns c.args.weights.now c.args.from c.args.sorted.now c.args.output.now output ends.result at in
    subst₂ Next (sym (put.output_after ∙ ap (λ (run : List ℕ). overwrite loop.output loop.at (part run)) (run_is place))) (sym (put.value ∙ ap (λ (run : List ℕ). loop.at + length (part run)) (run_is place)))
    (blocks_more c.args.keys.now c.args.tags.now c.args.root columns c.args.weights.now c.args.from c.args.sorted.now c.args.output.now loop.output loop.low loop.at loop.invariant ends.result ends.ensures c.requires.output_room)

pub returns : goal.returns
returns c =
    let loop = c.loop-low in
    blocks_all c.args.keys.now c.args.tags.now c.args.root (lists_of c.args.columns) c.args.weights.now c.args.from c.args.sorted.now c.args.output.now loop.output loop.low loop.at loop.invariant c.loop-low-test.false
