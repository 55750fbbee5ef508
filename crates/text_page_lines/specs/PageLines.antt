-- The lines of printed pages (document 02, N6), each from what it shows. Assumes nothing.
use Rattle.std.specs.Prelude.{List, ◌++◌, ℕ, ◌*◌, ◌/◌, ◌%◌}
use Rattle.std.proofs.Math.Option.{Option, none, some}
use Rattle.paris_points.specs.Points.{Size}
use Rattle.text.specs.Ascii.{ascii}
use Rattle.text.specs.Digits.{digits, decimal, hexadecimal}
use Rattle.text.specs.Columns.{right_aligned}
use Rattle.text_lines.specs.Lines.{line_feed}

-- "The line `PAGE` with a space, four digits, .. and a line feed".
abbrev pub number_digits : ℕ
number_digits = 4

unfoldable pub heading_line : ℕ → List ℕ
heading_line number = ascii "PAGE " ++ digits 10 number_digits number ++ line_feed

-- "Size (.. as 40.0)": half points as whole Paris points, a point, and one decimal, 5 where a half is left over.
unfoldable pub points_text : ℕ → List ℕ
points_text half_points = decimal (half_points / 2) ++ ascii "." ++ decimal (5 * (half_points % 2))

-- "A last without size shows a hyphen."
abbrev pub size_text : Option Size → List ℕ
size_text none = ascii "-"
size_text (some size) = points_text size.half_points

-- "With one space between": what stands after the first column.
abbrev pub spaced : List ℕ → List ℕ
spaced text = ascii " " ++ text

-- "Rank (4), count (4), .. size (4, ..)"; "rank, count and size are right-aligned with spaces".
abbrev pub column_width : ℕ
column_width = 4

abbrev pub column : List ℕ → List ℕ
column text = spaced (right_aligned column_width text)

-- "A key line is 48 characters and a line feed: key (16 hexadecimal digits, letters capital), rank (4), count (4), leader (16 digits), size (4, as
-- 40.0), with one space between."
unfoldable pub page_line : ℕ → ℕ → ℕ → ℕ → Option Size → List ℕ
page_line key rank count leader size =
    hexadecimal key ++ column (decimal rank) ++ column (decimal count) ++ spaced (hexadecimal leader) ++ column (size_text size) ++ line_feed
