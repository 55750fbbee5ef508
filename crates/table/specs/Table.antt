-- The words of a table, from what it holds, and back; which tables are sound. Assumes nothing.
use Rattle.std.specs.Prelude.{cond, ◌≡◌, ℕ, ◌+◌, ◌≤◌, eqb, length, get_or, replicate}
use mathlib.Core.List.{List, [], ◌∷◌, ◌++◌, map, flat_map}
use Rattle.lists.specs.Lists.{nonzero, keep, sort_by, up_from}
use Rattle.measure.specs.Measure.{stored_correction, measure_from}
use Rattle.priority.specs.Priority.{priority_with, home_of}
use Rattle.treap.specs.Treap.{top, left_link, right_link}
use Rattle.treap.specs.Levels.{rank, count, leader}
use Rattle.treap.specs.Slots.{slots_of}
use Rattle.table.specs.Layout.{most_slots, slot_words, order_word, salt_word, length_field, correction_field, slot_start, key_in}
use Rattle.table.specs.Contents.{Entry, Contents, keys_in, priority_in, measure_in, key_below, Valid}

-- "home(k) = floor(P(k) / 65,536) mod M" (01); "the priority of k, in its home too, becomes P of the exclusive or of k and the salt" (02, N9).
unfoldable pub home_in : ℕ → ℕ → ℕ → ℕ
home_in many salt k = home_of (priority_with salt k) many

-- "Words 0 to 2: α, n, root key" (01); the salt "in a new word after the root key" (02, N9).
unfoldable pub header : Contents → List ℕ
header c = c.order ∷ length (keys_in c) ∷ top (priority_in c) (keys_in c) ∷ c.salt ∷ []

-- "Then each slot: key, left, right, leader, rank, count. Links are keys. An empty slot is all zeros" (01); "slots gain these two words after
-- count, the correction stored" (02, N4).
unfoldable pub slot_of : Contents → ℕ → List ℕ
slot_of c k =
    cond (eqb k 0) (replicate slot_words 0)
    (k
    ∷ left_link (priority_in c) (keys_in c) k
    ∷ right_link (priority_in c) (keys_in c) k
    ∷ leader c.order (priority_in c) (keys_in c) k
    ∷ rank c.order (priority_in c) (keys_in c) k
    ∷ count c.order (priority_in c) (keys_in c) k
    ∷ (measure_in c.entries k).length
    ∷ stored_correction (measure_in c.entries k)
    ∷ [])

-- "The table of M slots built afresh from an order and a set of at most M keys", and from a salt: "its fresh table has that salt" (02, N9).
unfoldable pub fresh : ℕ → Contents → List ℕ
fresh many c = header c ++ flat_map (slot_of c) (slots_of (priority_in c) (home_in many c.salt) many (keys_in c))

-- "A table is sound when its words are exactly those for some order and some set of at most M keys", and for some salt.
pub record Sound (words : List ℕ) : Type 0 where
  pub many : ℕ
  pub contents : Contents
  pub some : 1 ≤ many
  pub most : many ≤ most_slots
  pub valid : Valid many contents
  pub exactly : words ≡ fresh many contents

-- The entry in a slot: its key, zero when it is empty, and the measure that its last two words show.
unfoldable pub entry_in : List ℕ → ℕ → Entry
entry_in words slot =
    record {
      key = key_in words slot;
      measure = measure_from (get_or words (slot_start slot + length_field) 0) (get_or words (slot_start slot + correction_field) 0);
    }

-- The entries in the slots that are not empty, in the order of slots.
unfoldable pub held_entries : ℕ → List ℕ → List Entry
held_entries many words = keep (λ e. nonzero e.key) (map (entry_in words) (up_from 0 many))

-- The order, the salt and the set that a table of so many slots shows: its order word, its salt word, and the entries in its slots, sorted by
-- key.
unfoldable pub contents_of : ℕ → List ℕ → Contents
contents_of many words =
    record { order = get_or words order_word 0; salt = get_or words salt_word 0; entries = sort_by key_below (held_entries many words) }
