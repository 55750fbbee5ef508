-- The worked sizes: the definitions make of each last what document 02 says. Assumes nothing.
use mathlib.Core.List.{map}
use mathlib.Core.Path.{◌≡◌, refl}
use Rattle.paris_points.specs.Points.{corrected, rounded, half_points, rest, size_of}
use Rattle.paris_points.specs.Claims.{lasts, sizes}

pub sizes_worked : map size_of lasts ≡ sizes
unfolding size_of corrected half_points rounded rest
sizes_worked = refl
