-- `text_page_lines::put_points` meets its contract: the whole points in their column, the point and the decimal are written one after the other. Assumes
-- nothing.
use mathlib.Core.List.{List, ◌++◌}
use mathlib.Core.Path.{subst}
use Prim.Native.Nat.{ℕ, ◌*◌, ◌/◌, ◌%◌}
use native.Mathlib.Omega.{arith}
use Rattle.text.specs.Ascii.{ascii}
use Rattle.text.specs.Digits.{decimal}
use Rattle.text.specs.Columns.{right_aligned}
use Rattle.text.proofs.Columns.{aligned_length}
use Rattle.text.proofs.Ongoing.{Ongoing, ongoing_none, ongoing_fits, ongoing_next, last_fits, ongoing_last}
use Rattle.text_page_lines.specs.PageLines.{points_text, column}
use Rattle.text_page_lines.proofs.Columns.{before_point, whole_fits, points_pieces}
use Rattle.text_page_lines.proofs.put_points.Goals as goal
use Rattle.text_page_lines.proofs.put_points.Goals.{After-put_aligned-point, After-put_bytes-tenth, Start}

module _ (start : Start) where
  -- The whole points in their column, and the decimal; what of the column is still to be written, where and into what.
  abbrev whole : List ℕ
  whole = right_aligned before_point (decimal (start.args.half_points / 2))

  abbrev tenth : List ℕ
  tenth = decimal (5 * (start.args.half_points % 2))

  abbrev Left : List ℕ → List ℕ → ℕ → Type 0
  Left = Ongoing start.args.output.now start.args.at (column (points_text start.args.half_points))

  at_first : Left (whole ++ (ascii "." ++ tenth)) start.args.output.now start.args.at
  at_first =
      subst (λ (rest : List ℕ). Left rest start.args.output.now start.args.at) (points_pieces start.args.half_points start.requires.0) (ongoing_none _ _ _)

counted : (c : After-put_aligned-point) → Left (goal.at.After-put_aligned-point c).Start (ascii "." ++ tenth (goal.at.After-put_aligned-point c).Start) c.put_aligned-point.new.output c.put_aligned-point.result
counted c = ongoing_next c.requires.1 (whole (goal.at.After-put_aligned-point c).Start) (ascii "." ++ tenth (goal.at.After-put_aligned-point c).Start) (at_first (goal.at.After-put_aligned-point c).Start) c.put_aligned-point.ensures

pointed : (c : After-put_bytes-tenth) → Left (goal.at.After-put_bytes-tenth c).Start (tenth (goal.at.After-put_bytes-tenth c).Start) c.put_bytes-tenth.new.output c.put_bytes-tenth.result
pointed c = ongoing_next c.requires.1 (ascii ".") (tenth (goal.at.After-put_bytes-tenth c).Start) (counted (goal.at.After-put_bytes-tenth c).After-put_aligned-point) c.put_bytes-tenth.ensures

pub put_aligned-point-requires : goal.put_aligned-point-requires
put_aligned-point-requires c =
    let fits = whole_fits c.args.half_points c.requires.0 in
    let room = ongoing_fits c.requires.1 (whole (goal.at.put_aligned-point-requires c).Start) (ascii "." ++ tenth (goal.at.put_aligned-point-requires c).Start) (at_first (goal.at.put_aligned-point-requires c).Start) in
    (omega arith, omega (arith, room, aligned_length before_point (decimal (c.args.half_points / 2)) (omega arith)))

pub put_bytes-tenth-requires : goal.put_bytes-tenth-requires
put_bytes-tenth-requires c = ongoing_fits c.requires.1 (ascii ".") (tenth (goal.at.put_bytes-tenth-requires c).Start) (counted (goal.at.put_bytes-tenth-requires c).After-put_aligned-point)

pub put_decimal-requires : goal.put_decimal-requires
put_decimal-requires c = last_fits c.requires.1 (tenth (goal.at.put_decimal-requires c).Start) (pointed (goal.at.put_decimal-requires c).After-put_bytes-tenth)

pub returns : goal.returns
returns c = ongoing_last c.requires.1 (tenth (goal.at.returns c).Start) (pointed (goal.at.returns c).After-put_bytes-tenth) c.put_decimal.ensures
