-- `intervals::is_within` meets its contract. Assumes nothing.
use Rattle.std.proofs.Common.{ap₂, ◌&&◌, ◌∙◌}
use Rattle.lists.specs.Lists.{lies}
use Rattle.intervals.proofs.Chosen.{is_le_leb}
use Rattle.intervals.proofs.is_within.Goals as goal

pub returns : goal.returns
unfolding lies
returns c =
    let range = c.new.ensures in
    let args = c.args in
    c.contains.ensures.value
    ∙ rw (range.start, range.end, range.exhausted) (ap₂ ◌&&◌ (is_le_leb args.low args.number) (is_le_leb args.number args.high))
