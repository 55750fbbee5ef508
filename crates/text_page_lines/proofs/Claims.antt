-- The claims of the lines of printed pages. Assumes nothing.
use mathlib.Core.Bool.{true}
use mathlib.Core.Path.{◌≡◌}
use Prim.Native.Nat.{ℕ, suc, ◌<◌}
use native.Mathlib.Omega.{arith}
use lib.ListN.{length, length-append}
use Rattle.measure.specs.Measure.{Measure, is_measure}
use Rattle.paris_points.specs.Points.{size_of}
use Rattle.text.specs.Digits.{decimal}
use Rattle.text.proofs.Spelling.{digits_length, hexadecimal_length}
use Rattle.text_page_lines.specs.PageLines.{number_digits, heading_line, size_text, page_line}
use Rattle.text_page_lines.specs.Claims.{key_characters, heading_bytes, column_limit, PageLines}
use Rattle.text_page_lines.proofs.Worked.{headings_worked, sizes_worked, lines_worked}
use Rattle.text_page_lines.proofs.Columns.{column_length, number_fits, size_fits}

pub key_line_length : (key rank count leader : ℕ) (m : Measure) → rank < column_limit → count < column_limit → is_measure m ≡ true
    → length (page_line key rank count leader (size_of m)) ≡ suc key_characters
unfolding page_line
key_line_length key rank count leader m h k right =
    simp length-append
    (omega (
      arith,
      hexadecimal_length key,
      column_length (decimal rank) (number_fits rank h),
      column_length (decimal count) (number_fits count k),
      hexadecimal_length leader,
      column_length (size_text (size_of m)) (size_fits m right),
    ))

pub heading_length : (number : ℕ) → length (heading_line number) ≡ heading_bytes
unfolding heading_line
heading_length number = simp length-append (omega (arith, digits_length 10 number_digits number))

pub page_lines_hold : PageLines
page_lines_hold =
    record {
      key_line_lem = key_line_length;
      heading = heading_length;
      worked_headings = headings_worked;
      worked_sizes = sizes_worked;
      worked_lines_lem = lines_worked;
    }
