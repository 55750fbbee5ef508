-- `image_fields::put` meets its contract. The loop's invariant: the first i bytes are written. Assumes nothing.
use Rattle.image_fields.proofs.Putting.{Put}
use Rattle.image_fields.proofs.put.Given as goal

abbrev pub invariant-loop-i : goal.invariant-loop-i
invariant-loop-i l = Put l.initial.output l.at l.number l.output l.rest l.i
