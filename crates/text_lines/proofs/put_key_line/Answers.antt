-- `text_lines::put_key_line` meets its contract: the pieces of the line are written one after the other. Assumes nothing.
use mathlib.Core.List.{List, ◌++◌}
use Prim.Native.Nat.{ℕ, ◌+◌, ◌≤◌}
use lib.ListN.{length}
use Rattle.text.specs.Written.{Written}
use Rattle.text.proofs.Pieces.{front_fits, next_fits, written_then}
use Rattle.text_lines.specs.Lines.{shows_number, shows_key, line_feed, key_line}
use Rattle.text_lines.proofs.put_key_line.Goals as goal
use Rattle.text_lines.proofs.put_key_line.Goals.{After-put_key-named, After-put_number-counted, After-put_number-ranked, Start}

-- What the line says up to one of its numbers.
abbrev to_key : Start → List ℕ
to_key start = shows_key "key " start.args.key

abbrev to_rank : Start → List ℕ
to_rank start = to_key start ++ shows_number " rank " start.args.rank

abbrev to_count : Start → List ℕ
to_count start = to_rank start ++ shows_number " count " start.args.count

-- there is room for it
room_count : (start : Start) → start.args.at + length (to_count start) ≤ length start.args.output.now
unfolding key_line
room_count start = front_fits start.args.at (to_count start) line_feed _ start.requires

room_rank : (start : Start) → start.args.at + length (to_rank start) ≤ length start.args.output.now
room_rank start = front_fits start.args.at (to_rank start) (shows_number " count " start.args.count) _ (room_count start)

room_key : (start : Start) → start.args.at + length (to_key start) ≤ length start.args.output.now
room_key start = front_fits start.args.at (to_key start) (shows_number " rank " start.args.rank) _ (room_rank start)

-- it is written
wrote_key : (c : After-put_key-named) → Written c.args.output.now c.args.at (to_key (goal.at.After-put_key-named c).Start) c.put_key-named.new.output c.put_key-named.result
wrote_key c = c.put_key-named.ensures

wrote_rank : (c : After-put_number-ranked) → Written c.args.output.now c.args.at (to_rank (goal.at.After-put_number-ranked c).Start) c.put_number-ranked.new.output c.put_number-ranked.result
wrote_rank c = written_then (wrote_key (goal.at.After-put_number-ranked c).After-put_key-named) c.put_number-ranked.ensures (room_rank (goal.at.After-put_number-ranked c).Start)

wrote_count : (c : After-put_number-counted) → Written c.args.output.now c.args.at (to_count (goal.at.After-put_number-counted c).Start) c.put_number-counted.new.output c.put_number-counted.result
wrote_count c = written_then (wrote_rank (goal.at.After-put_number-counted c).After-put_number-ranked) c.put_number-counted.ensures (room_count (goal.at.After-put_number-counted c).Start)

pub put_key-named-requires : goal.put_key-named-requires
put_key-named-requires c = room_key (goal.at.put_key-named-requires c).Start

pub put_number-ranked-requires : goal.put_number-ranked-requires
put_number-ranked-requires c = next_fits (wrote_key (goal.at.put_number-ranked-requires c).After-put_key-named) (shows_number " rank " c.args.rank) (room_rank (goal.at.put_number-ranked-requires c).Start)

pub put_number-counted-requires : goal.put_number-counted-requires
put_number-counted-requires c = next_fits (wrote_rank (goal.at.put_number-counted-requires c).After-put_number-ranked) (shows_number " count " c.args.count) (room_count (goal.at.put_number-counted-requires c).Start)

pub put_bytes-requires : goal.put_bytes-requires
unfolding key_line
put_bytes-requires c = next_fits (wrote_count (goal.at.put_bytes-requires c).After-put_number-counted) line_feed c.requires

pub returns : goal.returns
unfolding key_line
returns c = written_then (wrote_count (goal.at.returns c).After-put_number-counted) c.put_bytes.ensures c.requires
