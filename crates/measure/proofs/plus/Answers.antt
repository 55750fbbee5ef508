-- `measure::plus` meets its contract. Assumes nothing.
use Rattle.std.proofs.Common.{◌≡◌, sym, ap, ap₂, subst, ◌∙◌, ℕ, ◌+◌, ◌-◌, arith, rules, pos, ◌+ℤ◌, nat_abs, w32, w64, Fits}
use lib.Dec.{T}
use lib.IntN.{ℤ}
use lib.Signed.{non_neg}
use mir.Val.{SFits, to_z, of_z}
use mir.ValLaws.{to_z_pos, to_z-of_z}
use Rattle.measure.specs.Measure.{greatest_correction}
use Rattle.measure.proofs.Integers.{Unsigned, together, reads_back}
use Rattle.measure.proofs.plus.Goals as goal
use Rattle.measure.proofs.plus.Goals.{Start}

-- the sum, which has no sign and fits
module _ (c : Start) where
  abbrev number : ℕ
  number = c.args.number

  known : Unsigned (number - greatest_correction) (number + greatest_correction) (pos number +ℤ c.args.correction)
  known = together 4999 number c.args.correction c.requires.number_bounds.0 c.requires.correction_bounds

  machine : to_z w32 number +ℤ to_z w32 (of_z w32 c.args.correction) ≡ pos known.value
  machine = ap₂ ◌+ℤ◌ (to_z_pos w32 number (search rules)) (to_z-of_z w32 c.args.correction c.ranges.correction) ∙ known.is

  small : SFits w32 (pos known.value)
  small = record { sfits = omega (arith, known.most, c.requires.number_bounds) }

  again : to_z w32 (of_z w32 (to_z w32 number +ℤ to_z w32 (of_z w32 c.args.correction))) ≡ pos known.value
  again = reads_back w32 _ (pos known.value) machine small

pub overflow_add-result : goal.overflow_add-result
overflow_add-result c = let s = (goal.at.overflow_add-result c).Start in subst (SFits w32) (sym (machine s)) (small s)

pub overflow_cast-result-2 : goal.overflow_cast-result-2
overflow_cast-result-2 c =
    let s = (goal.at.overflow_cast-result-2 c).Start in
    subst (λ (y : ℤ). T (non_neg y) × Fits w64 (nat_abs y)) (sym (again s))
    (tt, record { fits = omega (arith, (known s).most, c.requires.number_bounds) })

pub returns : goal.returns
returns c = let s = (goal.at.returns c).Start in ap (λ (y : ℤ). pos (nat_abs y)) (again s) ∙ sym (known s).is
