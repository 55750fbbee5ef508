-- The worked lines: the definitions make of them what document 02 says. Assumes nothing.
use mathlib.Core.List.{[], ◌∷◌, map}
use mathlib.Core.Path.{◌≡◌, refl}
use Rattle.text.specs.Ascii.{ascii}
use Rattle.text.specs.Digits.{decimal, hexadecimal}
use Rattle.text.specs.Columns.{right_aligned}
use Rattle.text_page_lines.specs.PageLines.{heading_line, points_text, page_line}
use Rattle.text_page_lines.specs.Claims.{line_shown, line_columns, worked_lines}

pub headings_worked : map heading_line (1 ∷ 82 ∷ []) ≡ ascii "PAGE 0001\n" ∷ ascii "PAGE 0082\n" ∷ []
unfolding heading_line
headings_worked = refl

pub sizes_worked : map points_text (15 ∷ 80 ∷ 135 ∷ []) ≡ ascii "7.5" ∷ ascii "40.0" ∷ ascii "67.5" ∷ []
unfolding points_text decimal
sizes_worked = refl

pub lines_worked : map line_shown line_columns ≡ worked_lines
unfolding page_line points_text right_aligned decimal hexadecimal
lines_worked = refl
