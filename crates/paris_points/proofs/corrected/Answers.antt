-- `paris_points::corrected` meets its contract. Assumes nothing.
use mathlib.Core.Path.{◌≡◌, ap, ◌∙◌}
use native.Mathlib.Omega.{arith}
use mir.Syntax.{w32}
use mir.Val.{to_z, of_z}
use mir.ValLaws.{to_z-of_z}
use lib.IntN.{ℤ, pos, nat_abs, ◌+ℤ◌}
use Rattle.measure.specs.Measure.{Measure, least_correction, greatest_correction, lies_z}
use Rattle.paris_points.specs.Points.{corrected}
use Rattle.paris_points.proofs.Lengths.{length_within, correction_near, corrected_unsigned}
use Rattle.paris_points.proofs.corrected.Goals as goal
use Rattle.paris_points.proofs.corrected.Goals.{Start}

-- the last that is handed in, its correction as the machine has it
module _ (c : Start) where
  abbrev last : Measure
  last = record { length = c.args.length; correction = c.args.correction }

  same : to_z w32 (of_z w32 c.args.correction) ≡ c.args.correction
  same = to_z-of_z w32 c.args.correction c.ranges.correction

pub plus-requires-clause-correction_bounds : goal.plus-requires-clause-correction_bounds
plus-requires-clause-correction_bounds c =
    let within = length_within (last c) c.requires in ap (lies_z least_correction (pos greatest_correction)) (same c) ∙ correction_near (last c) c.requires

pub plus-requires-clause-number_bounds : goal.plus-requires-clause-number_bounds
plus-requires-clause-number_bounds c =
    let within = length_within (last c) c.requires in omega arith

pub returns : goal.returns
unfolding corrected
returns c =
    let t = corrected_unsigned (last (goal.at.returns c).Start) c.requires in
    let is = c.plus.ensures ∙ ap (λ (z : ℤ). pos c.args.length +ℤ z) (same (goal.at.returns c).Start) in
    let value : c.plus.result ≡ t.value = ap nat_abs (is ∙ t.is) in
    (is, omega (arith, t.most))
