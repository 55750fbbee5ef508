-- `text_page_lines::put_key_line` meets its contract: its columns are written one after the other. Assumes nothing.
use mathlib.Core.List.{List, ◌++◌}
use mathlib.Core.Path.{subst}
use Prim.Native.Nat.{ℕ, suc}
use native.Mathlib.Omega.{arith}
use Rattle.measure.specs.Tag.{measure_at}
use Rattle.paris_points.specs.Points.{size_of}
use Rattle.text.specs.Digits.{decimal, hexadecimal}
use Rattle.text.specs.Columns.{right_aligned}
use Rattle.text.proofs.Columns.{aligned_length}
use Rattle.text.proofs.Ongoing.{Ongoing, ongoing_none, ongoing_fits, ongoing_next, last_fits, ongoing_last}
use Rattle.text_lines.specs.Lines.{line_feed}
use Rattle.text_page_lines.specs.PageLines.{size_text, spaced, column_width, column, page_line}
use Rattle.text_page_lines.proofs.Columns.{number_fits, line_pieces}
use Rattle.text_page_lines.proofs.put_key_line.Goals as goal
use Rattle.text_page_lines.proofs.put_key_line.Goals.{After-put_aligned-counted, After-put_aligned-ranked, After-put_hexadecimal-named, After-put_key-led, After-put_size-sized, Start}

-- The line from one of its columns on.
abbrev from-size : Start → List ℕ
from-size start = column (size_text (size_of (measure_at start.args.tag))) ++ line_feed

abbrev from-leader : Start → List ℕ
from-leader start = spaced (hexadecimal start.args.leader) ++ from-size start

abbrev from-count : Start → List ℕ
from-count start = right_aligned (suc column_width) (decimal start.args.count) ++ from-leader start

abbrev from-rank : Start → List ℕ
from-rank start = right_aligned (suc column_width) (decimal start.args.rank) ++ from-count start

-- What of the line is still to be written, where and into what.
abbrev Left : Start → List ℕ → List ℕ → ℕ → Type 0
Left start = Ongoing start.args.output.now start.args.at (page_line start.args.key start.args.rank start.args.count start.args.leader (size_of (measure_at start.args.tag)))

at_first : (start : Start) → Left start (hexadecimal start.args.key ++ from-rank start) start.args.output.now start.args.at
at_first start =
    let args = start.args in
    subst (λ (rest : List ℕ). Left start rest args.output.now args.at)
    (line_pieces args.key args.rank args.count args.leader (size_of (measure_at args.tag)) start.requires.0 start.requires.1)
    (ongoing_none _ _ _)

named : (c : After-put_hexadecimal-named) → Left (goal.at.After-put_hexadecimal-named c).Start (from-rank (goal.at.After-put_hexadecimal-named c).Start) c.put_hexadecimal-named.new.output c.put_hexadecimal-named.result
named c =
    ongoing_next c.requires.3 (hexadecimal c.args.key) (from-rank (goal.at.After-put_hexadecimal-named c).Start) (at_first (goal.at.After-put_hexadecimal-named c).Start) c.put_hexadecimal-named.ensures

ranked : (c : After-put_aligned-ranked) → Left (goal.at.After-put_aligned-ranked c).Start (from-count (goal.at.After-put_aligned-ranked c).Start) c.put_aligned-ranked.new.output c.put_aligned-ranked.result
ranked c =
    ongoing_next c.requires.3 (right_aligned (suc column_width) (decimal c.args.rank)) (from-count (goal.at.After-put_aligned-ranked c).Start) (named (goal.at.After-put_aligned-ranked c).After-put_hexadecimal-named) c.put_aligned-ranked.ensures

counted : (c : After-put_aligned-counted) → Left (goal.at.After-put_aligned-counted c).Start (from-leader (goal.at.After-put_aligned-counted c).Start) c.put_aligned-counted.new.output c.put_aligned-counted.result
counted c =
    ongoing_next c.requires.3 (right_aligned (suc column_width) (decimal c.args.count)) (from-leader (goal.at.After-put_aligned-counted c).Start) (ranked (goal.at.After-put_aligned-counted c).After-put_aligned-ranked) c.put_aligned-counted.ensures

led : (c : After-put_key-led) → Left (goal.at.After-put_key-led c).Start (from-size (goal.at.After-put_key-led c).Start) c.put_key-led.new.output c.put_key-led.result
led c =
    ongoing_next c.requires.3 (spaced (hexadecimal c.args.leader)) (from-size (goal.at.After-put_key-led c).Start) (counted (goal.at.After-put_key-led c).After-put_aligned-counted) c.put_key-led.ensures

sized : (c : After-put_size-sized) → Left (goal.at.After-put_size-sized c).Start line_feed c.put_size-sized.new.output c.put_size-sized.result
sized c =
    ongoing_next c.requires.3 (column (size_text (size_of (measure_at c.args.tag)))) line_feed (led (goal.at.After-put_size-sized c).After-put_key-led) c.put_size-sized.ensures

pub put_hexadecimal-named-requires : goal.put_hexadecimal-named-requires
put_hexadecimal-named-requires c = ongoing_fits c.requires.3 (hexadecimal c.args.key) (from-rank (goal.at.put_hexadecimal-named-requires c).Start) (at_first (goal.at.put_hexadecimal-named-requires c).Start)

pub put_aligned-ranked-requires : goal.put_aligned-ranked-requires
put_aligned-ranked-requires c =
    let fits = number_fits c.args.rank c.requires.0 in
    let room = ongoing_fits c.requires.3 (right_aligned (suc column_width) (decimal c.args.rank)) (from-count (goal.at.put_aligned-ranked-requires c).Start) (named (goal.at.put_aligned-ranked-requires c).After-put_hexadecimal-named) in
    (omega arith, omega (arith, room, aligned_length (suc column_width) (decimal c.args.rank) (omega arith)))

pub put_aligned-counted-requires : goal.put_aligned-counted-requires
put_aligned-counted-requires c =
    let fits = number_fits c.args.count c.requires.1 in
    let room = ongoing_fits c.requires.3 (right_aligned (suc column_width) (decimal c.args.count)) (from-leader (goal.at.put_aligned-counted-requires c).Start) (ranked (goal.at.put_aligned-counted-requires c).After-put_aligned-ranked) in
    (omega arith, omega (arith, room, aligned_length (suc column_width) (decimal c.args.count) (omega arith)))

pub put_key-led-requires : goal.put_key-led-requires
put_key-led-requires c =
    ongoing_fits c.requires.3 (spaced (hexadecimal c.args.leader)) (from-size (goal.at.put_key-led-requires c).Start) (counted (goal.at.put_key-led-requires c).After-put_aligned-counted)

pub put_size-sized-requires : goal.put_size-sized-requires
put_size-sized-requires c =
    (c.requires.2, ongoing_fits c.requires.3 (column (size_text (size_of (measure_at c.args.tag)))) line_feed (led (goal.at.put_size-sized-requires c).After-put_key-led))

pub put_bytes-requires : goal.put_bytes-requires
put_bytes-requires c = last_fits c.requires.3 line_feed (sized (goal.at.put_bytes-requires c).After-put_size-sized)

pub returns : goal.returns
returns c = ongoing_last c.requires.3 line_feed (sized (goal.at.returns c).After-put_size-sized) c.put_bytes.ensures
