-- `text_listing::size` meets its contract. The loop's invariant: the lines of the records that are left are still to be measured. Assumes
-- nothing.
use Rattle.text_listing.proofs.Measuring.{Measured}
use Rattle.text_listing.proofs.size.Given as goal

abbrev pub invariant-loop-line : goal.invariant-loop-line
invariant-loop-line l = Measured l.image l.line-iterator l.total
