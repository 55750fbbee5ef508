-- The words of slots from columns by position: a position stands for the key there, and links and leaders are positions.
-- Assumes nothing.
use Rattle.std.specs.Prelude.{cond, ℕ, pred, ◌<◌, ◌≤◌, eqb, length, get_or, replicate}
use mathlib.Core.List.{List, [], ◌∷◌, ◌++◌, flat_map}
use Rattle.measure.specs.Tag.{length_in, stored_in}
use Rattle.table.specs.Layout.{slot_words}
use Rattle.treap_columns.specs.declared.Columns.{Columns}
use Rattle.table_encode.specs.declared.Slot.{Slot}

-- The key at a position; zero, no key, at position 0.
unfoldable pub key_at : List ℕ → ℕ → ℕ
key_at keys position = cond (eqb position 0) 0 (get_or keys (pred position) 0)

-- The eight words of the slot that a position is in; zeros at position 0. The last two are those of the tag there.
unfoldable pub slot_at : List ℕ → List ℕ → Columns → ℕ → List ℕ
slot_at keys tags c position =
    cond (eqb position 0) (replicate slot_words 0)
    (key_at keys position
    ∷ key_at keys (get_or c.left (pred position) 0)
    ∷ key_at keys (get_or c.right (pred position) 0)
    ∷ key_at keys (get_or c.leader (pred position) 0)
    ∷ get_or c.rank (pred position) 0
    ∷ get_or c.count (pred position) 0
    ∷ length_in (get_or tags (pred position) 0)
    ∷ stored_in (get_or tags (pred position) 0)
    ∷ [])

-- The words of a slot as the code has them together, in their order.
abbrev pub words_in : Slot → List ℕ
words_in s = s.key ∷ s.left ∷ s.right ∷ s.leader ∷ s.rank ∷ s.count ∷ s.length ∷ s.correction ∷ []

-- The words of a whole table.
unfoldable pub words_of : ℕ → ℕ → List ℕ → List ℕ → ℕ → Columns → List ℕ → List ℕ
words_of order salt keys tags root c slots = (order ∷ length keys ∷ key_at keys root ∷ salt ∷ []) ++ flat_map (slot_at keys tags c) slots

-- Columns with an entry for each key, whose links and leaders are positions of keys or zero.
pub record Linked (keys : List ℕ) (c : Columns) : Type 0 where
  pub left_long : length keys ≤ length c.left
  pub right_long : length keys ≤ length c.right
  pub leader_long : length keys ≤ length c.leader
  pub rank_long : length keys ≤ length c.rank
  pub count_long : length keys ≤ length c.count
  pub left_within : (i : ℕ) → i < length keys → get_or c.left i 0 ≤ length keys
  pub right_within : (i : ℕ) → i < length keys → get_or c.right i 0 ≤ length keys
  pub leader_within : (i : ℕ) → i < length keys → get_or c.leader i 0 ≤ length keys
