-- `paris_points::rounded` meets its contract. Assumes nothing.
use mathlib.Core.Path.{sym}
use Rattle.paris_points.proofs.Sizes.{rounded_is}
use Rattle.paris_points.proofs.rounded.Goals as goal

pub returns : goal.returns
returns c = sym (rounded_is c.args.thousandths)
