-- `text_lines::put_block_line` meets its contract: the pieces of the line are written one after the other. Assumes nothing.
use mathlib.Core.List.{List, ◌++◌}
use Prim.Native.Nat.{ℕ, ◌+◌, ◌≤◌}
use lib.ListN.{length}
use Rattle.text.specs.Written.{Written}
use Rattle.text.proofs.Pieces.{front_fits, next_fits, written_then}
use Rattle.text_lines.specs.Lines.{shows_number, shows_key, line_feed, block_line}
use Rattle.text_lines.proofs.put_block_line.Goals as goal
use Rattle.text_lines.proofs.put_block_line.Goals.{After-put_key-named, After-put_number-levelled, After-put_number-sized, Start}

-- What the line says up to one of its numbers.
abbrev to_leader : Start → List ℕ
to_leader start = shows_key "block " start.args.leader

abbrev to_level : Start → List ℕ
to_level start = to_leader start ++ shows_number " level " start.args.level

abbrev to_keys : Start → List ℕ
to_keys start = to_level start ++ shows_number " keys " start.args.keys

-- there is room for it
room_keys : (start : Start) → start.args.at + length (to_keys start) ≤ length start.args.output.now
unfolding block_line
room_keys start = front_fits start.args.at (to_keys start) line_feed _ start.requires

room_level : (start : Start) → start.args.at + length (to_level start) ≤ length start.args.output.now
room_level start = front_fits start.args.at (to_level start) (shows_number " keys " start.args.keys) _ (room_keys start)

room_leader : (start : Start) → start.args.at + length (to_leader start) ≤ length start.args.output.now
room_leader start = front_fits start.args.at (to_leader start) (shows_number " level " start.args.level) _ (room_level start)

-- it is written
wrote_leader : (c : After-put_key-named) → Written c.args.output.now c.args.at (to_leader (goal.at.After-put_key-named c).Start) c.put_key-named.new.output c.put_key-named.result
wrote_leader c = c.put_key-named.ensures

wrote_level : (c : After-put_number-levelled) → Written c.args.output.now c.args.at (to_level (goal.at.After-put_number-levelled c).Start) c.put_number-levelled.new.output c.put_number-levelled.result
wrote_level c = written_then (wrote_leader (goal.at.After-put_number-levelled c).After-put_key-named) c.put_number-levelled.ensures (room_level (goal.at.After-put_number-levelled c).Start)

wrote_keys : (c : After-put_number-sized) → Written c.args.output.now c.args.at (to_keys (goal.at.After-put_number-sized c).Start) c.put_number-sized.new.output c.put_number-sized.result
wrote_keys c = written_then (wrote_level (goal.at.After-put_number-sized c).After-put_number-levelled) c.put_number-sized.ensures (room_keys (goal.at.After-put_number-sized c).Start)

pub put_key-named-requires : goal.put_key-named-requires
put_key-named-requires c = room_leader (goal.at.put_key-named-requires c).Start

pub put_number-levelled-requires : goal.put_number-levelled-requires
put_number-levelled-requires c = next_fits (wrote_leader (goal.at.put_number-levelled-requires c).After-put_key-named) (shows_number " level " c.args.level) (room_level (goal.at.put_number-levelled-requires c).Start)

pub put_number-sized-requires : goal.put_number-sized-requires
put_number-sized-requires c = next_fits (wrote_level (goal.at.put_number-sized-requires c).After-put_number-levelled) (shows_number " keys " c.args.keys) (room_keys (goal.at.put_number-sized-requires c).Start)

pub put_bytes-requires : goal.put_bytes-requires
unfolding block_line
put_bytes-requires c = next_fits (wrote_keys (goal.at.put_bytes-requires c).After-put_number-sized) line_feed c.requires

pub returns : goal.returns
unfolding block_line
returns c = written_then (wrote_keys (goal.at.returns c).After-put_number-sized) c.put_bytes.ensures c.requires
