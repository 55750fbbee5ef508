-- `image_blocks::runs::run_end` meets its contract. The loop's invariant: the list has one weight from `low` up to `high`. Assumes nothing.
use mathlib.Core.Path.{◌≡◌, ◌∙◌, subst}
use native.Mathlib.Omega.{arith}
use lib.ListN.{length}
use Rattle.image_blocks.specs.Runs.{RunEnds}
use Rattle.image_blocks.proofs.Ending.{ended_by_other, ended_by_end}
use Rattle.image_blocks.proofs.runs.run_end.Goals as goal

pub returns-then-weight_of-weight : goal.returns-then-weight_of-weight
returns-then-weight_of-weight c =
    let loop = c.loop-high in
    ended_by_other c.args.weights.now c.args.sorted.now c.args.low _ loop.high loop.invariant (λ e. c.if-weight_of-weight.true (c.weight_of.ensures ∙ e))

pub returns : goal.returns
returns c =
    let loop = c.loop-high in
    let within = loop.invariant.within in
    let whole : loop.high ≡ length c.args.sorted.now = omega (arith, c.loop-high-test.false) in
    subst (RunEnds c.args.weights.now c.args.sorted.now c.args.low) whole (ended_by_end c.args.weights.now c.args.sorted.now c.args.low _ loop.high loop.invariant c.loop-high-test.false)
