-- `text_lines::put_header_line` meets its contract: the pieces of the line are written one after the other. Assumes nothing.
use mathlib.Core.List.{List, ◌++◌}
use Prim.Native.Nat.{ℕ, ◌+◌, ◌≤◌}
use lib.ListN.{length}
use Rattle.text.specs.Written.{Written}
use Rattle.text.proofs.Pieces.{front_fits, next_fits, written_then}
use Rattle.text_lines.specs.Lines.{shows_number, shows_key, line_feed, header_line}
use Rattle.text_lines.proofs.put_header_line.Goals as goal
use Rattle.text_lines.proofs.put_header_line.Goals.{After-put_key-rooted, After-put_number-blocked, After-put_number-filled, After-put_number-ordered, After-put_number-sized, Start}

-- What the line says up to one of its numbers.
abbrev to_order : Start → List ℕ
to_order start = shows_number "order " start.args.order

abbrev to_keys : Start → List ℕ
to_keys start = to_order start ++ shows_number " keys " start.args.keys

abbrev to_blocks : Start → List ℕ
to_blocks start = to_keys start ++ shows_number " blocks " start.args.blocks

abbrev to_fill : Start → List ℕ
to_fill start = to_blocks start ++ shows_number " fill " start.args.fill

abbrev to_root : Start → List ℕ
to_root start = to_fill start ++ shows_key " root " start.args.root

-- there is room for it
room_root : (start : Start) → start.args.at + length (to_root start) ≤ length start.args.output.now
unfolding header_line
room_root start = front_fits start.args.at (to_root start) line_feed _ start.requires

room_fill : (start : Start) → start.args.at + length (to_fill start) ≤ length start.args.output.now
room_fill start = front_fits start.args.at (to_fill start) (shows_key " root " start.args.root) _ (room_root start)

room_blocks : (start : Start) → start.args.at + length (to_blocks start) ≤ length start.args.output.now
room_blocks start = front_fits start.args.at (to_blocks start) (shows_number " fill " start.args.fill) _ (room_fill start)

room_keys : (start : Start) → start.args.at + length (to_keys start) ≤ length start.args.output.now
room_keys start = front_fits start.args.at (to_keys start) (shows_number " blocks " start.args.blocks) _ (room_blocks start)

room_order : (start : Start) → start.args.at + length (to_order start) ≤ length start.args.output.now
room_order start = front_fits start.args.at (to_order start) (shows_number " keys " start.args.keys) _ (room_keys start)

-- it is written
wrote_order : (c : After-put_number-ordered) → Written c.args.output.now c.args.at (to_order (goal.at.After-put_number-ordered c).Start) c.put_number-ordered.new.output c.put_number-ordered.result
wrote_order c = c.put_number-ordered.ensures

wrote_keys : (c : After-put_number-sized) → Written c.args.output.now c.args.at (to_keys (goal.at.After-put_number-sized c).Start) c.put_number-sized.new.output c.put_number-sized.result
wrote_keys c = written_then (wrote_order (goal.at.After-put_number-sized c).After-put_number-ordered) c.put_number-sized.ensures (room_keys (goal.at.After-put_number-sized c).Start)

wrote_blocks : (c : After-put_number-blocked) → Written c.args.output.now c.args.at (to_blocks (goal.at.After-put_number-blocked c).Start) c.put_number-blocked.new.output c.put_number-blocked.result
wrote_blocks c = written_then (wrote_keys (goal.at.After-put_number-blocked c).After-put_number-sized) c.put_number-blocked.ensures (room_blocks (goal.at.After-put_number-blocked c).Start)

wrote_fill : (c : After-put_number-filled) → Written c.args.output.now c.args.at (to_fill (goal.at.After-put_number-filled c).Start) c.put_number-filled.new.output c.put_number-filled.result
wrote_fill c = written_then (wrote_blocks (goal.at.After-put_number-filled c).After-put_number-blocked) c.put_number-filled.ensures (room_fill (goal.at.After-put_number-filled c).Start)

wrote_root : (c : After-put_key-rooted) → Written c.args.output.now c.args.at (to_root (goal.at.After-put_key-rooted c).Start) c.put_key-rooted.new.output c.put_key-rooted.result
wrote_root c = written_then (wrote_fill (goal.at.After-put_key-rooted c).After-put_number-filled) c.put_key-rooted.ensures (room_root (goal.at.After-put_key-rooted c).Start)

pub put_number-ordered-requires : goal.put_number-ordered-requires
put_number-ordered-requires c = room_order (goal.at.put_number-ordered-requires c).Start

pub put_number-sized-requires : goal.put_number-sized-requires
put_number-sized-requires c = next_fits (wrote_order (goal.at.put_number-sized-requires c).After-put_number-ordered) (shows_number " keys " c.args.keys) (room_keys (goal.at.put_number-sized-requires c).Start)

pub put_number-blocked-requires : goal.put_number-blocked-requires
put_number-blocked-requires c = next_fits (wrote_keys (goal.at.put_number-blocked-requires c).After-put_number-sized) (shows_number " blocks " c.args.blocks) (room_blocks (goal.at.put_number-blocked-requires c).Start)

pub put_number-filled-requires : goal.put_number-filled-requires
put_number-filled-requires c = next_fits (wrote_blocks (goal.at.put_number-filled-requires c).After-put_number-blocked) (shows_number " fill " c.args.fill) (room_fill (goal.at.put_number-filled-requires c).Start)

pub put_key-rooted-requires : goal.put_key-rooted-requires
put_key-rooted-requires c = next_fits (wrote_fill (goal.at.put_key-rooted-requires c).After-put_number-filled) (shows_key " root " c.args.root) (room_root (goal.at.put_key-rooted-requires c).Start)

pub put_bytes-requires : goal.put_bytes-requires
unfolding header_line
put_bytes-requires c = next_fits (wrote_root (goal.at.put_bytes-requires c).After-put_key-rooted) line_feed c.requires

pub returns : goal.returns
unfolding header_line
returns c = written_then (wrote_root (goal.at.returns c).After-put_key-rooted) c.put_bytes.ensures c.requires
