-- `image_programs::put_refused` meets its contract. Assumes nothing.
use mathlib.Core.List.{List, ◌++◌}
use Prim.Native.Nat.{ℕ, ◌+◌, ◌≤◌}
use native.Mathlib.Omega.{arith}
use lib.ListN.{length, length-append}
use Rattle.text.specs.Ascii.{ascii}
use Rattle.text.specs.Digits.{decimal}
use Rattle.text.specs.Written.{Written}
use Rattle.text.proofs.Decimal.{decimal_fits}
use Rattle.text.proofs.Pieces.{front_fits, next_fits, written_then}
use Rattle.image_programs.specs.Printed.{refused_text}
use Rattle.image_programs.proofs.put_refused.Goals as goal
use Rattle.image_programs.proofs.put_refused.Goals.{After-put_bytes-word, After-put_decimal-end, Start}

-- What is written after one piece, and after two.
abbrev to_word : List ℕ
to_word = ascii "refused "

abbrev to_number : Start → List ℕ
to_number start = to_word ++ decimal start.args.number

-- there is room for it
room-all : (start : Start) → 0 + length (to_number start ++ ascii "\n") ≤ length start.args.output.now
room-all start =
    omega (
      arith,
      start.requires,
      length-append (to_number start) (ascii "\n"),
      length-append to_word (decimal start.args.number),
      decimal_fits 19 start.args.number (omega (arith, start.ranges.number)),
    )

room-number : (start : Start) → 0 + length (to_number start) ≤ length start.args.output.now
room-number start = front_fits 0 (to_number start) (ascii "\n") _ (room-all start)

-- it is written
wrote-word : (c : After-put_bytes-word) → Written c.args.output.now 0 to_word c.put_bytes-word.new.output c.put_bytes-word.result
wrote-word c = c.put_bytes-word.ensures

wrote-number : (c : After-put_decimal-end) → Written c.args.output.now 0 (to_number (goal.at.After-put_decimal-end c).Start) c.put_decimal-end.new.output c.put_decimal-end.result
wrote-number c = written_then (wrote-word (goal.at.After-put_decimal-end c).After-put_bytes-word) c.put_decimal-end.ensures (room-number (goal.at.After-put_decimal-end c).Start)

pub put_decimal-end-requires : goal.put_decimal-end-requires
put_decimal-end-requires c =
    next_fits (wrote-word (goal.at.put_decimal-end-requires c).After-put_bytes-word) (decimal c.args.number) (room-number (goal.at.put_decimal-end-requires c).Start)

pub put_bytes-requires : goal.put_bytes-requires
put_bytes-requires c =
    next_fits (wrote-number (goal.at.put_bytes-requires c).After-put_decimal-end) (ascii "\n") (room-all (goal.at.put_bytes-requires c).Start)

pub returns : goal.returns
unfolding refused_text
returns c =
    written_then (wrote-number (goal.at.returns c).After-put_decimal-end) c.put_bytes.ensures (room-all (goal.at.returns c).Start)
