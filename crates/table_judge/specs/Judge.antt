-- Whether a table is sound. Assumes nothing.
use Rattle.std.specs.Prelude.{Bool, ◌&&◌, not, List, ℕ, eqb, length}
use Rattle.table.specs.Sound.{sound_with}
use Rattle.table_limits.specs.Lengths.{slots_for}

-- A table of a right length that is sound for its number of slots: its measures are within the rules, and its words are those of the order,
-- the salt and the set that it shows.
unfoldable pub is_sound : List ℕ → Bool
is_sound words = not (eqb (slots_for (length words)) 0) && sound_with (slots_for (length words)) words
