-- `call_sets::put_in` meets its contract. Assumes nothing.
use native.Mathlib.Omega.{arith}
use lib.ListN.{take, length-take}
use Rattle.call_sets.proofs.Placing.{index_most}
use Rattle.call_sets.proofs.put_in.Goals as goal

pub put_at-requires : goal.put_at-requires
put_at-requires c =
    (c.requires.0, omega (arith, c.index_of-at.ensures, index_most c.args.key (take c.args.n c.args.keys.now), length-take c.args.n c.args.keys.now))

pub put_at-requires-2 : goal.put_at-requires-2
put_at-requires-2 c =
    (c.requires.1, omega (arith, c.index_of-at.ensures, index_most c.args.key (take c.args.n c.args.keys.now), length-take c.args.n c.args.keys.now))
