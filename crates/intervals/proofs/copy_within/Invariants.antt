-- The loop of `intervals::copy_within`: the keys of the range among those passed are copied. Assumes nothing.
use Rattle.lists.specs.Lists.{lies}
use Rattle.lists.proofs.Copying.{Copied}
use Rattle.intervals.proofs.copy_within.Given as goal

abbrev pub invariant-loop-key : goal.invariant-loop-key
invariant-loop-key l = Copied (lies l.fn.low l.fn.high) l.fn.keys l.fn.output l.fn.n l.output l.at l.key-index
