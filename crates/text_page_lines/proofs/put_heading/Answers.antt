-- `text_page_lines::put_heading` meets its contract: its pieces are written one after the other. Assumes nothing.
use mathlib.Core.List.{List, ◌++◌}
use Prim.Native.Nat.{ℕ}
use native.Mathlib.Omega.{arith}
use Rattle.text.specs.Ascii.{ascii}
use Rattle.text.specs.Digits.{digits}
use Rattle.text.proofs.Spelling.{digits_length}
use Rattle.text.proofs.Ongoing.{Ongoing, ongoing_none, ongoing_fits, ongoing_next, last_fits, ongoing_last}
use Rattle.text_lines.specs.Lines.{line_feed}
use Rattle.text_page_lines.specs.PageLines.{number_digits, heading_line}
use Rattle.text_page_lines.proofs.put_heading.Goals as goal
use Rattle.text_page_lines.proofs.put_heading.Goals.{After-put_bytes-named, After-put_digits-numbered, Start}

-- What of the line is still to be written, where and into what.
abbrev Left : Start → List ℕ → List ℕ → ℕ → Type 0
Left start = Ongoing start.args.output.now start.args.at (heading_line start.args.number)

abbrev number : Start → List ℕ
number start = digits 10 number_digits start.args.number

at_first : (start : Start) → Left start (ascii "PAGE " ++ (number start ++ line_feed)) start.args.output.now start.args.at
unfolding heading_line
at_first start = ongoing_none _ _ _

named : (c : After-put_bytes-named) → Left (goal.at.After-put_bytes-named c).Start (number (goal.at.After-put_bytes-named c).Start ++ line_feed) c.put_bytes-named.new.output c.put_bytes-named.result
named c = ongoing_next c.requires (ascii "PAGE ") (number (goal.at.After-put_bytes-named c).Start ++ line_feed) (at_first (goal.at.After-put_bytes-named c).Start) c.put_bytes-named.ensures

numbered : (c : After-put_digits-numbered) → Left (goal.at.After-put_digits-numbered c).Start line_feed c.put_digits-numbered.new.output c.put_digits-numbered.result
numbered c = ongoing_next c.requires (number (goal.at.After-put_digits-numbered c).Start) line_feed (named (goal.at.After-put_digits-numbered c).After-put_bytes-named) c.put_digits-numbered.ensures

pub put_bytes-named-requires : goal.put_bytes-named-requires
put_bytes-named-requires c = ongoing_fits c.requires (ascii "PAGE ") (number (goal.at.put_bytes-named-requires c).Start ++ line_feed) (at_first (goal.at.put_bytes-named-requires c).Start)

pub put_digits-numbered-requires : goal.put_digits-numbered-requires
put_digits-numbered-requires c =
    let room = ongoing_fits c.requires (number (goal.at.put_digits-numbered-requires c).Start) line_feed (named (goal.at.put_digits-numbered-requires c).After-put_bytes-named) in
    (omega arith, omega arith, omega (arith, room, digits_length 10 number_digits c.args.number))

pub put_bytes-requires : goal.put_bytes-requires
put_bytes-requires c = last_fits c.requires line_feed (numbered (goal.at.put_bytes-requires c).After-put_digits-numbered)

pub returns : goal.returns
returns c = ongoing_last c.requires line_feed (numbered (goal.at.returns c).After-put_digits-numbered) c.put_bytes.ensures
