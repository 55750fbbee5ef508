-- `paris_points::half_points` meets its contract. Assumes nothing.
use Rattle.paris_points.specs.Points.{half_points}
use Rattle.paris_points.proofs.half_points.Goals as goal

pub returns : goal.returns
unfolding half_points
returns c = c.rounded.ensures
