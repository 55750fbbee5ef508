-- What is claimed of the lines of printed pages (document 02, N6); `proofs/Claims` proves it. Assumes nothing.
use Rattle.std.specs.Prelude.{true, List, [], ◌∷◌, map, ◌≡◌, ℕ, suc, ◌<◌, pos, length}
use Rattle.std.proofs.Math.Option.{Option, none, some}
use Rattle.measure.specs.Measure.{Measure, is_measure}
use Rattle.paris_points.specs.Points.{Size, size_of}
use Rattle.text.specs.Ascii.{ascii}
use Rattle.text_page_lines.specs.PageLines.{heading_line, points_text, page_line}

-- "A key line is 48 characters and a line feed."
abbrev pub key_characters : ℕ
key_characters = 48

-- "The line `PAGE` with a space, four digits, .. and a line feed".
abbrev pub heading_bytes : ℕ
heading_bytes = 10

-- The numbers that "rank (4), count (4)" hold are below this one.
abbrev pub column_limit : ℕ
column_limit = 10000

-- Columns for which a line is worked out below: key, rank, count, leader and size.
pub record Shown : Type 0 where
  pub key : ℕ
  pub rank : ℕ
  pub count : ℕ
  pub leader : ℕ
  pub size : Option Size

abbrev pub line_shown : Shown → List ℕ
line_shown s = page_line s.key s.rank s.count s.leader s.size

-- A root that is not measured; a key with two digits of rank and one of count, of the size that document 02 gives; one with the widest columns.
abbrev pub line_columns : List Shown
line_columns =
    record { key = 5; rank = 0; count = 1; leader = 0; size = none }
    ∷ record { key = 0xFEDCBA9876543210; rank = 12; count = 3; leader = 10; size = some (record { half_points = 80; rest = pos 0 }) }
    ∷ record { key = 1; rank = 4096; count = 4096; leader = 2; size = some (record { half_points = 135; rest = pos 0 }) }
    ∷ []

abbrev pub worked_lines : List (List ℕ)
worked_lines =
    ascii "0000000000000005    0    1 0000000000000000    -\n"
    ∷ ascii "FEDCBA9876543210   12    3 000000000000000A 40.0\n"
    ∷ ascii "0000000000000001 4096 4096 0000000000000002 67.5\n"
    ∷ []

pub record PageLines : Type 0 where
  -- "A key line is 48 characters and a line feed", for a rank and a count of at most four digits, whatever measure within the rules the key has
  pub key_line_lem : (key rank count leader : ℕ) (m : Measure) → rank < column_limit → count < column_limit → is_measure m ≡ true
      → length (page_line key rank count leader (size_of m)) ≡ suc key_characters
  -- the line of a page's number has ten bytes
  pub heading : (number : ℕ) → length (heading_line number) ≡ heading_bytes
  -- "The line `PAGE` with a space, four digits"
  pub worked_headings : map heading_line (1 ∷ 82 ∷ []) ≡ ascii "PAGE 0001\n" ∷ ascii "PAGE 0082\n" ∷ []
  -- sizes are "as 40.0", from 7.5 to 67.5, since they are from 15 to 135 half points (`Rattle.paris_points.specs.Claims.size_lies`)
  pub worked_sizes : map points_text (15 ∷ 80 ∷ 135 ∷ []) ≡ ascii "7.5" ∷ ascii "40.0" ∷ ascii "67.5" ∷ []
  -- whole lines
  pub worked_lines_lem : map line_shown line_columns ≡ worked_lines
