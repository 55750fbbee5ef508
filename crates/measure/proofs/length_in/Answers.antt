-- `measure::length_in` meets its contract. Assumes nothing.
use Rattle.std.proofs.Common.{refl}
use Rattle.measure.specs.Tag.{length_in}
use Rattle.measure.proofs.length_in.Goals as goal

pub returns : goal.returns
unfolding length_in
returns c = refl
