-- The two words in which a measure is stored show it again. Assumes nothing.
use mathlib.Core.Bool.{true, false, cond, ◌&&◌}
use mathlib.Core.Path.{◌≡◌, refl, sym, ap, ◌∙◌}
use Prim.Native.Nat.{ℕ, ◌≤◌}
use native.Mathlib.Omega.{arith}
use lib.Dec.{eqb, leb}
use lib.IntN.{ℤ, pos, nat_abs, ◌+ℤ◌, ◌-ℤ◌, +ℤ-neg_ℤ_cancel}
use borrow.Author.Tests.{leb-true, le-leb, eqb-true, eq-eqb}
use Rattle.lists.specs.Lists.{lies}
use Rattle.lists.proofs.Tests.{by_test, and_both, and_left, and_right, lies_says}
use Rattle.measure.specs.Measure.{Measure, least_length, greatest_length, least_correction, greatest_correction, unmeasured, lies_z, is_measure, stored_correction, measure_from}
use Rattle.measure.specs.Tag.{greatest_stored, is_stored}
use Rattle.measure.proofs.Integers.{lies_zero, raised_positive, raised_upto, lowered_lies, lowered_raised}

-- ---- with no length, and with one
module _ (m : Measure) where
  pub none_corrected : eqb m.length 0 ≡ true → is_measure m ≡ true → m.correction ≡ pos 0
  unfolding is_measure
  none_corrected e h = lies_zero m.correction (rw e at h)

  pub measured : eqb m.length 0 ≡ false → is_measure m ≡ true
      → (lies least_length greatest_length m.length ≡ true) × (lies_z least_correction (pos greatest_correction) m.correction ≡ true)
  unfolding is_measure
  measured e h =
      let length = lies least_length greatest_length m.length in
      let near = lies_z least_correction (pos greatest_correction) m.correction in
      let both : (length && near) ≡ true = rw e at h in
      (and_left length near both, and_right length near both)

  pub stored_raised : eqb m.length 0 ≡ false → stored_correction m ≡ nat_abs (m.correction +ℤ pos greatest_correction)
  unfolding stored_correction
  stored_raised e = rw e

module _ (l s : ℕ) where
  none_stored : eqb l 0 ≡ true → is_stored l s ≡ true → s ≡ 0
  unfolding is_stored
  none_stored e h = eqb-true s 0 (rw e at h)

  pub some_stored : eqb l 0 ≡ false → is_stored l s ≡ true → (lies least_length greatest_length l ≡ true) × (s ≤ greatest_stored)
  unfolding is_stored
  some_stored e h =
      let length = lies least_length greatest_length l in
      let both : (length && leb s greatest_stored) ≡ true = rw e at h in
      (and_left length (leb s greatest_stored) both, leb-true s greatest_stored (and_right length (leb s greatest_stored) both))

-- ---- a measure is shown again
pub from_length : (l s : ℕ) → (measure_from l s).length ≡ l
unfolding measure_from
from_length l s = refl

pub read_back : (m : Measure) → is_measure m ≡ true → measure_from m.length (stored_correction m) ≡ m
unfolding measure_from stored_correction
read_back m h = ap (λ (z : ℤ). record { length = m.length; correction = z }) again
  where
    again : cond (eqb m.length 0) (pos 0) (pos (cond (eqb m.length 0) 0 (nat_abs (m.correction +ℤ pos greatest_correction))) -ℤ pos greatest_correction) ≡ m.correction
    again =
        by_test (eqb m.length 0) (λ e. rw e (sym (none_corrected m e h)))
        (λ e. rw e (ap (λ (z : ℤ). z -ℤ pos greatest_correction) (raised_positive 4999 m.correction (measured m e h).1) ∙ +ℤ-neg_ℤ_cancel m.correction (pos greatest_correction)))

-- ---- and so is what is stored
module _ (l s : ℕ) where
  pub stored_back : is_stored l s ≡ true → stored_correction (measure_from l s) ≡ s
  unfolding measure_from stored_correction
  stored_back h = by_test (eqb l 0) (λ e. rw e (sym (none_stored l s e h))) (λ e. rw e (lowered_raised 4999 s))

  pub stored_measures : is_stored l s ≡ true → is_measure (measure_from l s) ≡ true
  unfolding measure_from is_measure lies_z
  stored_measures h =
      by_test (eqb l 0) (λ e. rw e refl)
      (λ e. let (long, few) = some_stored l s e h in rw e (and_both _ _ long (lowered_lies 4999 s few)))

pub measure_stored : (m : Measure) → is_measure m ≡ true → is_stored m.length (stored_correction m) ≡ true
unfolding is_stored stored_correction
measure_stored m h =
    by_test (eqb m.length 0) (λ e. rw e refl)
    (λ e.
    let (long, near) = measured m e h in
    rw e (and_both _ _ long (le-leb _ greatest_stored (raised_upto 4999 m.correction near))))

module _ (l s : ℕ) where
  pub stored_bounds : is_stored l s ≡ true → (l ≤ greatest_length) × (s ≤ greatest_stored)
  stored_bounds h =
      by_test (eqb l 0) (λ e. let none = eqb-true l 0 e in let few = none_stored l s e h in omega arith)
      (λ e. let (long, few) = some_stored l s e h in ((lies_says least_length greatest_length l long).1, few))

-- ---- not measured
pub unmeasured_right : is_measure unmeasured ≡ true
unfolding is_measure lies_z
unmeasured_right = refl

pub unmeasured_stored : stored_correction unmeasured ≡ 0
unfolding stored_correction
unmeasured_stored = refl

pub from_nothing : (s : ℕ) → measure_from 0 s ≡ unmeasured
unfolding measure_from
from_nothing s = refl

pub length_zero : (m : Measure) → is_measure m ≡ true → m.length ≡ 0 → m ≡ unmeasured
length_zero m h e = λ i. record { length = e i; correction = none_corrected m (eq-eqb m.length 0 e) h i }
