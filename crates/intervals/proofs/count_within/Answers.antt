-- `intervals::count_within` meets its contract. Assumes nothing.
use Rattle.std.proofs.Common.{◌≡◌, ◌∙◌, take, rules}
use Rattle.std.proofs.iter.runs.Made.{chains}
use Rattle.std.specs.List.{count_by}
use Rattle.lists.specs.Lists.{lies}
use Rattle.intervals.specs.Intervals.{within}
use Rattle.intervals.proofs.Chosen.{count_kept}
use Rattle.intervals.proofs.count_within.Goals as goal

pub returns : goal.returns
unfolding within
returns c =
    let test = lies c.args.low c.args.high in
    let counted : c.count.result ≡ count_by test (take c.args.n c.args.keys.now) = search (rules, chains) in
    counted ∙ count_kept test (take c.args.n c.args.keys.now)
