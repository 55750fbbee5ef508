-- The columns of a line, and the pieces in which they are written. Assumes a text that its column holds, where it says so.
use mathlib.Core.Bool.{true}
use mathlib.Core.List.{List, ◌++◌, append_assoc}
use mathlib.Core.Logic.{◌≢◌}
use mathlib.Core.Option.{Option}
use mathlib.Core.Path.{◌≡◌, refl, sym, ap, ap₂, ◌∙◌}
use Prim.Native.Nat.{ℕ, suc, ◌+◌, ◌-◌, ◌*◌, ◌/◌, ◌%◌, ◌≤◌, ◌<◌}
use native.Mathlib.Omega.{arith}
use lib.Dec.{eqb}
use lib.ListN.{length, length-append}
use borrow.Author.Tests.{eqb-false, eq-eqb, ne_eqb}
use Rattle.lists.proofs.Tests.{by_test, lies_says}
use Rattle.measure.specs.Measure.{Measure, is_measure}
use Rattle.measure.specs.Tag.{length_in, measure_at}
use Rattle.measure.proofs.Tags.{length_at}
use Rattle.paris_points.specs.Points.{Size, IsMeasured, corrected, half_points, size_of}
use Rattle.paris_points.specs.Claims.{least_half_points, greatest_half_points}
use Rattle.paris_points.proofs.Claims.{sizes_hold}
use Rattle.text.specs.Ascii.{ascii}
use Rattle.text.specs.Digits.{decimal, hexadecimal}
use Rattle.text.specs.Columns.{spaces, right_aligned}
use Rattle.text.proofs.Columns.{aligned_length}
use Rattle.text.proofs.Decimal.{decimal_single, decimal_fits}
use Rattle.text_lines.specs.Lines.{line_feed}
use Rattle.text_page_lines.specs.PageLines.{points_text, size_text, spaced, column_width, column, page_line}
use Rattle.text_page_lines.specs.Claims.{column_limit}

module _ (text : List ℕ) (fits : length text ≤ column_width) where
  pub column_length : length (column text) ≡ suc column_width
  column_length = ap suc (aligned_length column_width text fits)

  -- the space before it is one of those that align it
  pub column_wide : column text ≡ right_aligned (suc column_width) text
  unfolding right_aligned
  column_wide =
      let one_more : suc (column_width - length text) ≡ suc column_width - length text = omega arith in
      ap (λ (many : ℕ). spaces many ++ text) one_more

-- a text of which the end is written after the column: the column is narrower by as much
pub aligned_before : (width : ℕ) (text end : List ℕ) → right_aligned (width + length end) (text ++ end) ≡ right_aligned width text ++ end
unfolding right_aligned
aligned_before width text end =
    let narrower : width + length end - length (text ++ end) ≡ width - length text = omega (arith, length-append text end) in
    ap (λ (many : ℕ). spaces many ++ (text ++ end)) narrower ∙ sym (append_assoc (spaces (width - length text)) text end)

-- What of a size's column, the space before it included, is before the point.
abbrev pub before_point : ℕ
before_point = 3

-- ---- ranks and counts
pub number_fits : (n : ℕ) → n < column_limit → length (decimal n) ≤ column_width
number_fits n h = decimal_fits 3 n (omega arith)

-- ---- sizes
module _ (h : ℕ) (most : h ≤ greatest_half_points) where
  pub whole_fits : length (decimal (h / 2)) ≤ 2
  whole_fits = decimal_fits 1 (h / 2) (omega arith)

  tenth_long : length (decimal (5 * (h % 2))) ≡ 1
  tenth_long = decimal_single (5 * (h % 2)) (omega arith)

  points_long : length (points_text h) ≡ length (decimal (h / 2)) + 2
  unfolding points_text
  points_long = simp length-append (omega (arith, tenth_long))

  pub points_fit : length (points_text h) ≤ column_width
  points_fit = omega (arith, points_long, whole_fits)

  pub points_pieces : column (points_text h) ≡ right_aligned before_point (decimal (h / 2)) ++ (ascii "." ++ decimal (5 * (h % 2)))
  unfolding points_text
  points_pieces =
      let end = ascii "." ++ decimal (5 * (h % 2)) in
      let wide : suc column_width ≡ before_point + length end = omega (arith, tenth_long) in
      column_wide (points_text h) points_fit
      ∙ ap₂ right_aligned wide (append_assoc (decimal (h / 2)) (ascii ".") (decimal (5 * (h % 2))))
      ∙ aligned_before before_point (decimal (h / 2)) end

pub size_within : (m : Measure) → IsMeasured m → half_points (corrected m) ≤ greatest_half_points
size_within m known = (lies_says least_half_points greatest_half_points (half_points (corrected m)) (sizes_hold.size_lies m known)).1

pub size_fits : (m : Measure) → is_measure m ≡ true → length (size_text (size_of m)) ≤ column_width
unfolding size_of
size_fits m right =
    by_test (eqb m.length 0) (λ e. rw e (omega arith))
    (λ e. rw e (points_fit (half_points (corrected m)) (size_within m (right, eqb-false m.length 0 e))))

-- of a tag
module _ (tag : ℕ) where
  pub size_none : length_in tag ≡ 0 → size_text (size_of (measure_at tag)) ≡ ascii "-"
  unfolding size_of
  size_none e = rw (eq-eqb (measure_at tag).length 0 (length_at tag ∙ e))

  pub size_some : length_in tag ≢ 0 → size_text (size_of (measure_at tag)) ≡ points_text (half_points (corrected (measure_at tag)))
  unfolding size_of
  size_some h = rw (ne_eqb (measure_at tag).length 0 (λ e. h (sym (length_at tag) ∙ e)))

-- ---- the line
pub line_pieces : (key rank count leader : ℕ) (size : Option Size)
    → rank < column_limit → count < column_limit → page_line key rank count leader size
    ≡ hexadecimal key
    ++ (right_aligned (suc column_width) (decimal rank)
    ++ (right_aligned (suc column_width) (decimal count) ++ (spaced (hexadecimal leader) ++ (column (size_text size) ++ line_feed))))
unfolding page_line
line_pieces key rank count leader size h k =
    rw (sym (column_wide (decimal rank) (number_fits rank h)), sym (column_wide (decimal count) (number_fits count k))) (simp append_assoc refl)
