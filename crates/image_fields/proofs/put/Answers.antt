-- `image_fields::put` meets its contract. The loop's invariant: the first i bytes are written. Assumes nothing.
use native.Mathlib.Omega.{arith}
use Rattle.image_fields.proofs.Putting.{put_none, put_next}
use Rattle.image_fields.proofs.put.Goals as goal

pub loop-i-init : goal.loop-i-init
loop-i-init c = put_none c.args.output.now c.args.at c.args.number

pub loop-i-preserved : goal.loop-i-preserved
loop-i-preserved c =
    let args = c.args in
    let loop = c.loop-i in
    put_next args.output.now args.at args.number loop.output loop.rest loop.i loop.invariant (omega (arith, c.requires))
