-- `call_sets::take_out` meets its contract. Assumes nothing.
use native.Mathlib.Omega.{arith}
use lib.ListN.{take, length-take}
use Rattle.call_sets.proofs.Placing.{index_below}
use Rattle.call_sets.proofs.take_out.Goals as goal

pub remove_at-requires : goal.remove_at-requires
remove_at-requires c =
    (c.requires.0, omega (arith, c.index_of-at.ensures, index_below c.args.key (take c.args.n c.args.keys.now) c.requires.2 c.requires.3, length-take c.args.n c.args.keys.now))

pub remove_at-requires-2 : goal.remove_at-requires-2
remove_at-requires-2 c =
    (c.requires.1, omega (arith, c.index_of-at.ensures, index_below c.args.key (take c.args.n c.args.keys.now) c.requires.2 c.requires.3, length-take c.args.n c.args.keys.now))
