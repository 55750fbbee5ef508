-- What is claimed of sizes (document 02, N5); `proofs/Claims` proves it. Assumes nothing.
use Rattle.std.specs.Prelude.{true, List, [], ◌∷◌, map, ◌≡◌, ℕ, ℤ, pos, neg_ℤ}
use Rattle.std.proofs.Math.Option.{Option, none, some}
use Rattle.lists.specs.Lists.{lies}
use Rattle.measure.specs.Measure.{Measure, unmeasured, lies_z}
use Rattle.paris_points.specs.Points.{corrected, least_corrected, greatest_corrected, half_points, rest, least_rest, greatest_rest, Size, size_of, IsMeasured}

-- "A t of 26,500 gives 80 half points, rest −500", without a correction and with one. One of 26,833 has the same size and the greatest rest; then
-- come the least and the greatest size. "An unmeasured last has no size and no rest."
abbrev pub lasts : List Measure
lasts =
    record { length = 26500; correction = pos 0 }
    ∷ record { length = 26750; correction = neg_ℤ (pos 250) }
    ∷ record { length = 26833; correction = pos 0 }
    ∷ record { length = 10000; correction = neg_ℤ (pos 5000) }
    ∷ record { length = 40000; correction = pos 5000 }
    ∷ unmeasured
    ∷ []

abbrev pub sizes : List (Option Size)
sizes =
    some (record { half_points = 80; rest = neg_ℤ (pos 500) })
    ∷ some (record { half_points = 80; rest = neg_ℤ (pos 500) })
    ∷ some (record { half_points = 80; rest = pos 499 })
    ∷ some (record { half_points = 15; rest = pos 0 })
    ∷ some (record { half_points = 135; rest = pos 0 })
    ∷ none
    ∷ []

-- The sizes of measured lasts: 3 · 5,000 thousandths are 15 half points, 3 · 45,000 are 135.
abbrev pub least_half_points : ℕ
least_half_points = 15

abbrev pub greatest_half_points : ℕ
greatest_half_points = 135

-- The size is the same, and the rest too.
abbrev pub SameSize : ℤ → ℤ → Type 0
SameSize t u = (half_points t ≡ half_points u) × (rest t ≡ rest u)

pub record Sizes : Type 0 where
  -- t is above zero for every measured last, so that `nat_abs` leaves it as it is
  pub corrected_lies : (m : Measure) → IsMeasured m → lies_z (pos least_corrected) (pos greatest_corrected) (corrected m) ≡ true
  -- its size is from 15 to 135 half points
  pub size_lies : (m : Measure) → IsMeasured m → lies least_half_points greatest_half_points (half_points (corrected m)) ≡ true
  -- the rest "is from −500 to 499", for every measured last
  pub rest_lies : (m : Measure) → IsMeasured m → lies_z least_rest greatest_rest (rest (corrected m)) ≡ true
  -- size and rest determine t
  pub determine : (t u : ℤ) → SameSize t u → t ≡ u
  -- "A t of 26,500 gives 80 half points, rest −500", and the others above
  pub worked : map size_of lasts ≡ sizes
