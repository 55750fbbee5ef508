-- The claims of sizes. Assumes nothing.
use mathlib.Core.Bool.{true}
use mathlib.Core.Path.{◌≡◌, ap, ◌∙◌}
use native.Mathlib.Omega.{arith}
use lib.IntN.{ℤ, pos}
use Rattle.lists.specs.Lists.{lies}
use Rattle.lists.proofs.Tests.{lies_when}
use Rattle.measure.specs.Measure.{Measure, lies_z}
use Rattle.measure.proofs.Integers.{Unsigned}
use Rattle.paris_points.specs.Points.{corrected, least_corrected, greatest_corrected, half_points, rest, least_rest, greatest_rest, IsMeasured}
use Rattle.paris_points.specs.Claims.{least_half_points, greatest_half_points, Sizes}
use Rattle.paris_points.proofs.Worked.{sizes_worked}
use Rattle.paris_points.proofs.Lengths.{corrected_unsigned}
use Rattle.paris_points.proofs.Sizes.{half_points_is, rest_within, both_determine}

module _ (m : Measure) (known : IsMeasured m) where
  t : Unsigned least_corrected greatest_corrected (corrected m)
  t = corrected_unsigned m known

  corrected_within : lies_z (pos least_corrected) (pos greatest_corrected) (corrected m) ≡ true
  unfolding lies_z lies
  corrected_within =
      ap (lies_z (pos least_corrected) (pos greatest_corrected)) t.is ∙ lies_when least_corrected greatest_corrected t.value t.least t.most

  size_within : lies least_half_points greatest_half_points (half_points (corrected m)) ≡ true
  size_within =
      let size = half_points_is t.value in
      ap (λ (z : ℤ). lies least_half_points greatest_half_points (half_points z)) t.is
      ∙ lies_when least_half_points greatest_half_points (half_points (pos t.value)) (omega (arith, t.least)) (omega (arith, t.most))

  rest_of_measured : lies_z least_rest greatest_rest (rest (corrected m)) ≡ true
  rest_of_measured =
      ap (λ (z : ℤ). lies_z least_rest greatest_rest (rest z)) t.is ∙ rest_within t.value

pub sizes_hold : Sizes
sizes_hold =
    record { corrected_lies = corrected_within; size_lies = size_within; rest_lies = rest_of_measured; determine = both_determine; worked = sizes_worked }
