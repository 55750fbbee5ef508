-- The corrected length of a measured last has no sign, and lies within its bounds; from a tag it is what is stored, less 5,000. Assumes a measured
-- last.
use mathlib.Core.Bool.{true}
use mathlib.Core.Logic.{◌≢◌}
use mathlib.Core.Path.{◌≡◌, refl, sym, ◌∙◌}
use Prim.Native.Nat.{ℕ, ◌+◌, ◌-◌, ◌≤◌}
use native.Mathlib.Omega.{arith}
use lib.IntN.{pos, neg_ℤ, +ℤ_assoc}
use borrow.Author.Tests.{ne_eqb}
use Rattle.lists.specs.Lists.{lies}
use Rattle.lists.proofs.Tests.{lies_says}
use Rattle.measure.specs.Measure.{Measure, least_length, greatest_length, greatest_correction, measure_from}
use Rattle.measure.specs.Tag.{length_in, stored_in, measure_at, is_tag}
use Rattle.measure.proofs.Integers.{Near, Unsigned, by_sign, together}
use Rattle.measure.proofs.Stored.{measured, some_stored}
use Rattle.measure.proofs.Tags.{length_at, tag_measures}
use Rattle.paris_points.specs.Points.{corrected, IsMeasured, least_corrected, greatest_corrected}

module _ (m : Measure) (known : IsMeasured m) where
  rules : (lies least_length greatest_length m.length ≡ true) × Near 4999 m.correction
  rules = measured m (ne_eqb m.length 0 known.1) known.0

  pub length_within : (least_length ≤ m.length) × (m.length ≤ greatest_length)
  length_within = lies_says least_length greatest_length m.length rules.0

  pub correction_near : Near 4999 m.correction
  correction_near = rules.1

  pub corrected_unsigned : Unsigned least_corrected greatest_corrected (corrected m)
  unfolding corrected
  corrected_unsigned =
      let within = length_within in
      let t = together 4999 m.length m.correction (omega arith) correction_near in record {
        value = t.value;
        is = t.is;
        least = omega (arith, t.least);
        most = omega (arith, t.most);
      }

-- ---- from a tag, in which the correction is stored as itself plus 5,000
module _ (tag : ℕ) (right : is_tag tag ≡ true) (long : length_in tag ≢ 0) where
  pub tag_measured : IsMeasured (measure_at tag)
  tag_measured = (tag_measures tag right, λ e. long (sym (length_at tag) ∙ e))

  pub tag_within : (least_length ≤ length_in tag) × (length_in tag + stored_in tag - greatest_correction ≤ greatest_corrected)
  unfolding is_tag
  tag_within =
      let (within, few) = some_stored (length_in tag) (stored_in tag) (ne_eqb (length_in tag) 0 long) right in
      let bounds = lies_says least_length greatest_length (length_in tag) within in
      (bounds.0, omega arith)

  pub corrected_at : corrected (measure_at tag) ≡ pos (length_in tag + stored_in tag - greatest_correction)
  unfolding corrected measure_at measure_from
  corrected_at =
      let l = length_in tag in
      let s = stored_in tag in
      let within = tag_within.0 in
      rw (ne_eqb l 0 long)
      (sym (+ℤ_assoc (pos l) (pos s) (neg_ℤ (pos greatest_correction)))
      ∙ by_sign (λ z. z ≡ pos (l + s - greatest_correction)) (l + s) greatest_correction (λ h. absurd (omega arith)) (λ h. refl))
