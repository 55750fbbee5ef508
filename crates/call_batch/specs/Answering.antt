-- How a batch is answered line by line: what is kept from one line to the next. Assumes nothing.
use Rattle.std.specs.Prelude.{List, [], ◌∷◌, ℕ, pred, ◌+◌, ◌<◌, ◌≤◌}
use Rattle.table.specs.Layout.{most_slots}
use Rattle.table_descend.specs.Lookup.{earlier, newly_met}
use Rattle.call_meaning.specs.Reasons.{shown}
use Rattle.call_batch.specs.declared.Question.{Question}
use Rattle.call_batch.specs.declared.Progress.{Progress}
use Rattle.call_batch.specs.Batch.{held_by, rank_by}

-- Before the first line.
abbrev pub nothing_asked : Progress
nothing_asked = record { key = 0; held = 0; rank = 0; before = 0; blocks = 0 }

-- After one line more: what a lookup says of its key, and the blocks that neither of the two lines before it met.
unfoldable pub line_after : List ℕ → Progress → ℕ → Progress
line_after words so key =
    record {
      key = key;
      held = held_by words key;
      rank = rank_by words key;
      before = so.key;
      blocks = so.blocks + newly_met (shown words) (earlier so.key so.before) key;
    }

-- The last line answered.
abbrev pub line_of : Progress → Question
line_of so = record { key = so.key; held = so.held; rank = so.rank }

-- After the lines of these keys.
abbrev pub progress : List ℕ → Progress → List ℕ → Progress
progress words so [] = so
progress words so (key ∷ keys) = progress words (line_after words so key) keys

-- A line can be answered: its key is above the last one's, that above the one before, and the blocks met so far are few.
pub record Ready (so : Progress) (key : ℕ) : Type 0 where
  pub above : so.key < key
  pub rising : so.before ≤ pred so.key
  pub few : so.blocks ≤ most_slots

-- So can each line of these keys, one after the other.
abbrev pub Askable : List ℕ → Progress → List ℕ → Type 0
Askable words so [] = Unit {0}
Askable words so (key ∷ keys) = Ready so key × Askable words (line_after words so key) keys
