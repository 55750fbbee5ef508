-- `paris_points::half_points_in` meets its contract. Assumes nothing.
use mathlib.Core.Path.{sym, ap, ◌∙◌}
use Prim.Native.Nat.{ℕ, ◌+◌, ◌-◌, ◌≤◌}
use native.Mathlib.Omega.{arith}
use lib.IntN.{ℤ, pos}
use Rattle.measure.specs.Measure.{least_length, greatest_correction}
use Rattle.measure.specs.Tag.{length_in, stored_in}
use Rattle.paris_points.specs.Points.{greatest_corrected, half_points}
use Rattle.paris_points.proofs.Lengths.{tag_within, corrected_at}
use Rattle.paris_points.proofs.half_points_in.Goals as goal
use Rattle.paris_points.proofs.half_points_in.Goals.{Start}

within : (start : Start) → (least_length ≤ length_in start.args.tag) × (length_in start.args.tag + stored_in start.args.tag - greatest_correction ≤ greatest_corrected)
within start = tag_within start.args.tag start.requires.0 start.requires.1

pub overflow_add-raised : goal.overflow_add-raised
overflow_add-raised c = omega (arith, c.length_in.ensures, c.stored_in.ensures, within (goal.at.overflow_add-raised c).Start)

pub overflow_sub-raised : goal.overflow_sub-raised
overflow_sub-raised c = omega (arith, c.length_in.ensures, c.stored_in.ensures, within (goal.at.overflow_sub-raised c).Start)

pub half_points-requires : goal.half_points-requires
half_points-requires c = omega (arith, c.length_in.ensures, c.stored_in.ensures, within (goal.at.half_points-requires c).Start)

pub returns : goal.returns
returns c =
    let t : ℤ = pos (length_in c.args.tag + stored_in c.args.tag - greatest_correction) in
    c.half_points.ensures
    ∙ ap (λ (n : ℕ). half_points (pos n)) (omega (arith, c.length_in.ensures, c.stored_in.ensures))
    ∙ ap half_points (sym (corrected_at c.args.tag c.requires.0 c.requires.1))
