-- The size of a last in Paris points (document 02, N5). Assumes nothing.
use Rattle.std.specs.Prelude.{cond, true, ◌≢◌, ◌≡◌, ℕ, suc, ◌+◌, ◌-◌, ◌*◌, ◌/◌, ◌%◌, eqb, ltb, ℤ, pos, nat_abs, neg_ℤ, ◌+ℤ◌, ◌-ℤ◌, ◌*ℤ◌}
use Rattle.std.proofs.Math.Option.{Option, none, some}
use Rattle.measure.specs.Measure.{Measure, least_length, greatest_length, greatest_correction, is_measure}

-- "With t the length plus the correction": the corrected length, in hundredths of a millimetre.
unfoldable pub corrected : Measure → ℤ
corrected m = pos m.length +ℤ m.correction

-- A measured last: its measure is within the rules, and its length is not 0, which "means not measured". Its t is from 10,000 − 5,000 to
-- 40,000 + 5,000 (`Claims.Sizes.corrected_lies`).
abbrev pub IsMeasured : Measure → Type 0
IsMeasured m = (is_measure m ≡ true) × (m.length ≢ 0)

abbrev pub least_corrected : ℕ
least_corrected = least_length - greatest_correction

abbrev pub greatest_corrected : ℕ
greatest_corrected = greatest_length + greatest_correction

-- "A Paris point is two thirds of a centimetre": a hundredth of a millimetre is three thousandths of a half point, so that t is 3·t thousandths.
abbrev pub per_hundredth : ℕ
per_hundredth = 3

abbrev pub per_half_point : ℕ
per_half_point = 1000

-- "Rounded to the nearest whole half point, a half going up": so many thousandths as whole half points, one more where what is left over is half
-- of one or more.
unfoldable pub rounded : ℕ → ℕ
rounded thousandths =
    let whole = thousandths / per_half_point in
    cond (ltb (2 * (thousandths % per_half_point)) per_half_point) whole (suc whole)

-- "The last's size in half points is 3·t/1,000, rounded"; t is not negative for a measured last.
unfoldable pub half_points : ℤ → ℕ
half_points t = rounded (per_hundredth * nat_abs t)

-- "The signed rest, 3·t less 1,000 times the rounded size".
unfoldable pub rest : ℤ → ℤ
rest t = pos per_hundredth *ℤ t -ℤ pos per_half_point *ℤ pos (half_points t)

-- "It is from −500 to 499."
abbrev pub least_rest : ℤ
least_rest = neg_ℤ (pos 500)

abbrev pub greatest_rest : ℤ
greatest_rest = pos 499

-- A size with its rest.
pub record Size : Type 0 where
  pub half_points : ℕ
  pub rest : ℤ

-- "An unmeasured last has no size and no rest."
unfoldable pub size_of : Measure → Option Size
size_of m = cond (eqb m.length 0) none (some (record { half_points = half_points (corrected m); rest = rest (corrected m) }))
