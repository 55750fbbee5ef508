-- The steps of a lookup: a key in its slot, and the key compared after it. Assumes nothing.
use Rattle.std.specs.Prelude.{true, cond, List, ◌≡◌, ℕ, ◌≤◌, ◌<◌, ltb, length}
use Rattle.treap.specs.Treap.{left_link, right_link}
use Rattle.table.specs.Layout.{most_slots, table_words, key_in}
use Rattle.table.specs.Contents.{Contents, keys_in, priority_in}
use Rattle.table.specs.Sound.{sound_with}

-- The key compared after `at` in the search for another key: its left link for a lesser one, its right link for a greater.
unfoldable pub next_key : Contents → ℕ → ℕ → ℕ
next_key c at key = cond (ltb key at) (left_link (priority_in c) (keys_in c) at) (right_link (priority_in c) (keys_in c) at)

-- The words are a sound table of so many slots, and this slot of theirs holds the key.
pub record InSlot (many : ℕ) (words : List ℕ) (key slot : ℕ) : Type 0 where
  pub few : many ≤ most_slots
  pub long : length words ≡ table_words many
  pub sound : sound_with many words ≡ true
  pub positive : 1 ≤ key
  pub below : slot < many
  pub holds : key_in words slot ≡ key
