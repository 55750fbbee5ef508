-- `text_listing::write` meets its contract. The loop's invariant: the lines of the records that are left are still to come. Assumes
-- nothing.
use Rattle.text.proofs.Ongoing.{Ongoing}
use Rattle.text_listing.specs.Shown.{shown}
use Rattle.text_listing.specs.Lines.{lines_left}
use Rattle.text_listing.proofs.write.Given as goal

abbrev pub invariant-loop-line : goal.invariant-loop-line
invariant-loop-line l = Ongoing l.fn.output 0 (shown l.image) (lines_left l.line-iterator) l.output l.to
