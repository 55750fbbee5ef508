-- The loop of `measure::put_tags`: the tags of those passed are put. Assumes nothing.
use Rattle.std.proofs.Common.{◌≡◌, take}
use Rattle.lists.specs.Lists.{overwrite}
use Rattle.measure.proofs.Beside.{tags_beside}
use Rattle.measure.proofs.put_tags.Given as goal

abbrev pub invariant-loop-i : goal.invariant-loop-i
invariant-loop-i l = l.tags ≡ overwrite l.fn.tags 0 (take l.i (tags_beside l.fn.lengths l.fn.corrections))
