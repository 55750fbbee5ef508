-- `measure::tag_from` meets its contract. Assumes nothing.
use Rattle.std.proofs.Common.{arith, refl}
use Rattle.measure.specs.Tag.{tag_from}
use Rattle.measure.proofs.Stored.{stored_bounds}
use Rattle.measure.proofs.tag_from.Goals as goal

pub overflow_mul-result : goal.overflow_mul-result
overflow_mul-result c = omega (arith, stored_bounds c.args.length c.args.stored c.requires)

pub overflow_add-result : goal.overflow_add-result
overflow_add-result c = omega (arith, stored_bounds c.args.length c.args.stored c.requires)

pub returns : goal.returns
unfolding tag_from
returns c = refl
