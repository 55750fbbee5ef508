-- The worked pages: the definitions make of them what document 02 says. Assumes nothing.
use mathlib.Core.List.{[], ◌∷◌, map, flat_map}
use mathlib.Core.Path.{◌≡◌, refl}
use Prim.Native.Nat.{ℕ}
use Rattle.lists.specs.Lists.{rounded_up}
use Rattle.treap.specs.Treap.{top, treap, outranks_rest}
use Rattle.treap.specs.Levels.{next_level, rank, count, leader}
use Rattle.paris_points.specs.Points.{corrected, rounded, half_points, rest, size_of}
use Rattle.text.specs.Ascii.{ascii}
use Rattle.text.specs.Digits.{decimal, hexadecimal}
use Rattle.text.specs.Columns.{right_aligned}
use Rattle.text_page_lines.specs.PageLines.{heading_line, points_text, page_line}
use Rattle.text_pages.specs.Pages.{line_of, page_of, page_count, pages_of}
use Rattle.text_pages.specs.Claims.{single}

pub counts_worked : map page_count (0 ∷ 1 ∷ 49 ∷ 50 ∷ 51 ∷ 100 ∷ 101 ∷ 4096 ∷ []) ≡ 1 ∷ 1 ∷ 1 ∷ 1 ∷ 2 ∷ 2 ∷ 3 ∷ 82 ∷ []
unfolding page_count rounded_up
counts_worked = refl

pub empty_worked : (order salt : ℕ) → pages_of (record { order = order; salt = salt; entries = [] }) ≡ ascii "PAGE 0001\n"
unfolding pages_of page_count rounded_up page_of heading_line flat_map
empty_worked order salt = refl

pub page_worked : (salt : ℕ) → pages_of (single salt) ≡ ascii "PAGE 0001\n0000000000000005    0    1 0000000000000000 40.0\n"
unfolding pages_of page_count rounded_up page_of line_of heading_line page_line points_text right_aligned decimal hexadecimal size_of corrected half_points rounded rest top treap outranks_rest rank count leader next_level flat_map
page_worked salt = refl
