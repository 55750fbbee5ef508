-- Corrections as the machine has them: one that a measure's words show is read back from a signed word, and one that is handed on stays as it
-- is. Assumes a stored correction of two bytes, or a correction that fits.
use mathlib.Core.Path.{◌≡◌, ap}
use Prim.Native.Nat.{ℕ, ◌<◌}
use native.Mathlib.Omega.{arith}
use lib.Dec.{eqb}
use lib.IntN.{ℤ}
use mir.Syntax.{w32, w64}
use mir.Val.{SFits, to_z, of_z}
use mir.ValLaws.{to_z-of_z}
use Rattle.lists.proofs.Tests.{by_test}
use Rattle.measure.specs.Measure.{Measure, greatest_correction, measure_from}
use Rattle.measure.specs.Tag.{stored_values}
use Rattle.measure.proofs.Integers.{mag_below, reads_back}

correction_fits : (l s : ℕ) → s < stored_values → SFits w64 (measure_from l s).correction
unfolding measure_from
correction_fits l s h =
    by_test (eqb l 0)
    (λ t. rw t (record { sfits = omega arith }))
    (λ t. rw t (record { sfits = mag_below s greatest_correction _ (omega arith) (omega arith) }))

pub correction_back : (l s : ℕ) (z : ℤ) → s < stored_values → z ≡ (measure_from l s).correction → to_z w64 (of_z w64 z) ≡ (measure_from l s).correction
correction_back l s z h e = reads_back w64 z (measure_from l s).correction e (correction_fits l s h)

-- ---- a measure whose correction is handed on as a number of 32 bits is the one that was handed in
pub handed_on : (l : ℕ) (z : ℤ) → SFits w32 z → ◌≡◌ {A = Measure} (record { length = l; correction = to_z w32 (of_z w32 z) }) (record { length = l; correction = z })
handed_on l z fits = ap (λ (y : ℤ). record { length = l; correction = y }) (to_z-of_z w32 z fits)
