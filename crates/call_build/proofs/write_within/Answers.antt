-- `call_build::write_within` meets its contract. Assumes nothing.
use mathlib.Core.Bool.{true}
use mathlib.Core.List.{List}
use mathlib.Core.Path.{◌≡◌, sym, subst}
use Prim.Native.Nat.{ℕ}
use lib.IntN.{ℤ}
use lib.ListN.{length, take}
use Rattle.lists.specs.Lists.{every}
use Rattle.measure.specs.Measure.{is_measure, measures_beside}
use Rattle.measure.proofs.Beside.{tags_beside, measured_says}
use Rattle.table.specs.Tags.{Beside}
use Rattle.call_build.proofs.Tagging.{tags_fit, tags_first, tags_written}
use Rattle.call_build.proofs.write_within.Goals as goal
use Rattle.call_build.proofs.write_within.Goals.{After-put_tags, Start}

-- what was lent, and that there is one measure within the rules beside each key
module _ (start : Start) where
  abbrev keys : List ℕ
  keys = start.args.keys.now

  abbrev lengths : List ℕ
  lengths = start.args.lengths.now

  abbrev corrections : List ℤ
  corrections = start.args.corrections.now

  told : (length lengths ≡ length keys) × (length corrections ≡ length lengths) × (every is_measure (measures_beside lengths corrections) ≡ true)
  told = measured_says (length keys) lengths corrections start.requires.measured

-- once the tags are put: their first are those of the measures
module _ (p : After-put_tags) where
  first : take (length (keys (goal.at.After-put_tags p).Start)) p.put_tags.new.tags ≡ tags_beside (lengths (goal.at.After-put_tags p).Start) (corrections (goal.at.After-put_tags p).Start)
  first = tags_first (keys (goal.at.After-put_tags p).Start) (lengths (goal.at.After-put_tags p).Start) (corrections (goal.at.After-put_tags p).Start) (told (goal.at.After-put_tags p).Start) p.args.tags.now p.put_tags.new.tags p.put_tags.ensures

  fit : Beside (keys (goal.at.After-put_tags p).Start) (tags_beside (lengths (goal.at.After-put_tags p).Start) (corrections (goal.at.After-put_tags p).Start))
  fit = tags_fit (keys (goal.at.After-put_tags p).Start) (lengths (goal.at.After-put_tags p).Start) (corrections (goal.at.After-put_tags p).Start) (told (goal.at.After-put_tags p).Start)

pub write-requires-clause-keys : goal.write-requires-clause-keys
write-requires-clause-keys c =
    let pre = c.requires in
    (pre.keys, subst (Beside (keys (goal.at.write-requires-clause-keys c).Start)) (sym (first (goal.at.write-requires-clause-keys c).After-put_tags)) (fit (goal.at.write-requires-clause-keys c).After-put_tags))

pub returns : goal.returns
returns c =
    tags_written (keys (goal.at.returns c).Start) (lengths (goal.at.returns c).Start) (corrections (goal.at.returns c).Start) (told (goal.at.returns c).Start) c.args.many c.args.order c.args.salt c.write.new.table
    (take (length (keys (goal.at.returns c).Start)) c.put_tags.new.tags) (first (goal.at.returns c).After-put_tags) c.write.ensures
