-- The rule of rounding, and what it makes of size and rest. Assumes nothing.
use mathlib.Core.Bool.{true}
use mathlib.Core.Path.{◌≡◌, sym, ap, ap₂, ◌∙◌}
use Prim.Native.Nat.{ℕ, ◌+◌, ◌*◌, ◌/◌, ◌%◌}
use native.Mathlib.Omega.{arith}
use lib.Dec.{ltb}
use lib.IntN.{ℤ, pos, sub_ℕ, ◌+ℤ◌, ◌*ℤ◌, -ℤ-+ℤ_cancel}
use borrow.Author.Tests.{ltb-true, ltb-false}
use Rattle.lists.proofs.Tests.{by_test}
use Rattle.measure.specs.Measure.{lies_z}
use Rattle.measure.proofs.Integers.{difference, difference_lies}
use Rattle.paris_points.specs.Points.{per_hundredth, per_half_point, rounded, half_points, rest, least_rest, greatest_rest}
use Rattle.paris_points.specs.Claims.{SameSize}
use Rattle.paris_points.proofs.Thirds.{third}

-- half of one is added, and what is not whole is left
pub rounded_is : (n : ℕ) → rounded n ≡ (n + per_half_point / 2) / per_half_point
unfolding rounded
rounded_is n =
    by_test (ltb (2 * (n % per_half_point)) per_half_point)
    (λ e. let less = ltb-true (2 * (n % per_half_point)) per_half_point e in rw e (omega arith))
    (λ e. let more = ltb-false (2 * (n % per_half_point)) per_half_point e in rw e (omega arith))

module _ (t : ℕ) where
  pub half_points_is : half_points (pos t) ≡ (per_hundredth * t + per_half_point / 2) / per_half_point
  unfolding half_points
  half_points_is = rounded_is (per_hundredth * t)

  -- ---- the rest
  rest_is : rest (pos t) ≡ sub_ℕ (per_hundredth * t) (per_half_point * half_points (pos t))
  unfolding rest
  rest_is = difference (per_hundredth * t) (per_half_point * half_points (pos t))

  pub rest_within : lies_z least_rest greatest_rest (rest (pos t)) ≡ true
  rest_within =
      let size = half_points_is in
      ap (lies_z least_rest greatest_rest) rest_is
      ∙ difference_lies (per_hundredth * t) (per_half_point * half_points (pos t)) _ _ (omega arith) (omega arith)

-- ---- size and rest together
pub both_determine : (t u : ℤ) → SameSize t u → t ≡ u
unfolding rest
both_determine t u (size, left) =
    third t u (sym (made_up t) ∙ ap₂ (λ (z : ℤ) (n : ℕ). z +ℤ pos per_half_point *ℤ pos n) left size ∙ made_up u)
  where
    made_up : (z : ℤ) → rest z +ℤ pos per_half_point *ℤ pos (half_points z) ≡ pos per_hundredth *ℤ z
    made_up z = -ℤ-+ℤ_cancel (pos per_hundredth *ℤ z) (pos per_half_point *ℤ pos (half_points z))
