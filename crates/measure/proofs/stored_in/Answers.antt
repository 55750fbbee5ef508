-- `measure::stored_in` meets its contract. Assumes nothing.
use Rattle.std.proofs.Common.{refl}
use Rattle.measure.specs.Tag.{stored_in}
use Rattle.measure.proofs.stored_in.Goals as goal

pub returns : goal.returns
unfolding stored_in
returns c = refl
