-- `paris_points::rest` meets its contract. Assumes nothing.
use mathlib.Core.Path.{◌≡◌, ap, ◌∙◌}
use Prim.Native.Nat.{ℕ, ◌*◌, ◌≤◌}
use native.Mathlib.Omega.{arith}
use borrow.Author.Rules.{rules}
use lib.IntN.{pos, ◌-ℤ◌}
use mir.Syntax.{w64}
use mir.Val.{to_z, of_z}
use mir.ValLaws.{to_z-of_z}
use Rattle.measure.specs.Measure.{lies_z}
use Rattle.paris_points.specs.Points.{greatest_corrected, per_hundredth, per_half_point, rest, least_rest, greatest_rest}
use Rattle.paris_points.specs.Claims.{greatest_half_points}
use Rattle.paris_points.proofs.Sizes.{half_points_is, rest_within}
use Rattle.paris_points.proofs.rest.Goals as goal
use Rattle.paris_points.proofs.rest.Goals.{After-gap, Start}

-- t and size are small, and so both products are
bounded : (c : Start) → (c.args.t ≤ greatest_corrected) × (c.args.size ≤ greatest_half_points)
bounded c = let size = c.requires.1 ∙ half_points_is c.args.t in let upto = c.requires.0 in (upto, omega arith)

is : (c : After-gap) → to_z w64 (of_z w64 c.gap.result) ≡ rest (pos c.args.t)
unfolding rest
is c =
    to_z-of_z w64 c.gap.result (search rules)
    ∙ c.gap.ensures
    ∙ ap (λ (n : ℕ). pos (per_hundredth * c.args.t) -ℤ pos (per_half_point * n)) c.requires.1

pub overflow_mul-size : goal.overflow_mul-size
overflow_mul-size c = omega (arith, bounded c)

pub gap-requires : goal.gap-requires
gap-requires c = let both = bounded c in (omega arith, omega arith)

pub returns : goal.returns
returns c = (is c, ap (lies_z least_rest greatest_rest) (is c) ∙ rest_within c.args.t)
