-- `text::put_digits` meets its contract. The loop's invariant: the digits from its index on are written. Assumes nothing.
use Rattle.text.proofs.Spelling.{Spelled}
use Rattle.text.proofs.put_digits.Given as goal

abbrev pub invariant-loop-i : goal.invariant-loop-i
invariant-loop-i l = Spelled l.initial.output l.at l.base l.many l.n l.output l.i l.rest
