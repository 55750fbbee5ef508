-- `text_pages::put_keys` meets its contract. The loop's invariant: the lines of the keys from its index on are still to come. Assumes nothing.
use mathlib.Core.List.{List, ◌++◌}
use Prim.Native.Nat.{ℕ, suc}
use native.Mathlib.Numerals.{add-one}
use Rattle.treap_columns.specs.Lent.{lists_of}
use Rattle.text.proofs.Ongoing.{Ongoing, ongoing_none, ongoing_fits, ongoing_next, ongoing_turn, ongoing_end}
use Rattle.text_pages.specs.Shown.{shown_line, shown_lines}
use Rattle.text_pages.proofs.put_keys.Goals as goal
use Rattle.text_pages.proofs.put_keys.Goals.{In-loop-i, Start}

-- The lines of the keys from an index on, and what of them is still to be written, where and into what.
module _ (start : Start) where
  abbrev line : ℕ → List ℕ
  line = shown_line start.args.keys.now start.args.tags.now (lists_of start.args.columns)

  abbrev lines : ℕ → List ℕ
  lines i = shown_lines start.args.keys.now start.args.tags.now (lists_of start.args.columns) i start.args.to

  abbrev Left : List ℕ → List ℕ → ℕ → Type 0
  Left = Ongoing start.args.output.now start.args.at (lines start.args.from)

turn : (t : In-loop-i) → Left (goal.at.In-loop-i t).Start (line (goal.at.In-loop-i t).Start t.loop-i.i ++ lines (goal.at.In-loop-i t).Start (suc t.loop-i.i)) t.loop-i.output t.loop-i.end
unfolding shown_lines
turn t = ongoing_turn (line (goal.at.In-loop-i t).Start) t.loop-i.i t.args.to t.loop-i.invariant t.loop-i-test.true

pub loop-i-init : goal.loop-i-init
loop-i-init c = ongoing_none _ _ _

pub put_key-end-requires-clause-room : goal.put_key-end-requires-clause-room
put_key-end-requires-clause-room c =
    let i = c.loop-i.i in ongoing_fits c.requires.room (line (goal.at.put_key-end-requires-clause-room c).Start i) (lines (goal.at.put_key-end-requires-clause-room c).Start (suc i)) (turn (goal.at.put_key-end-requires-clause-room c).In-loop-i)

pub loop-i-preserved : goal.loop-i-preserved
loop-i-preserved c =
    let i = c.loop-i.i in
    rw add-one (ongoing_next c.requires.room (line (goal.at.loop-i-preserved c).Start i) (lines (goal.at.loop-i-preserved c).Start (suc i)) (turn (goal.at.loop-i-preserved c).In-loop-i) c.put_key-end.ensures)

pub returns : goal.returns
unfolding shown_lines
returns c = ongoing_end (line (goal.at.returns c).Start) c.loop-i.i c.args.to c.loop-i.invariant c.loop-i-test.false
